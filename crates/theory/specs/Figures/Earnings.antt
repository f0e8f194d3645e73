-- Where no state without a path to a goal is reached, every state that is reached has an expected reward, and one only.
use Rattle.std.specs.Prelude.{ℕ, ◌*◌, ◌<◌, ◌≡◌}
use Rattle.std.proofs.Common.{sym, ◌∙◌, arith}
use Rattle.std.proofs.Math.Logic.Dec
use Rattle.meaning.specs.Number.{only}
use Rattle.meaning.specs.Chain.{Chain, edge_count, from, to, Goal, FromStart, Live}
use Rattle.meaning.specs.Figure.{Missed, Earns}
use Rattle.theory.specs.Chains.Flow.{flow_ext}
use Rattle.theory.specs.Chains.Fine.{Fine, reached_state}
use Rattle.theory.specs.Chains.Path.{test, test_yes, test_no, dec_goal, dec_to_goal, dec_live}
use Rattle.theory.specs.Figures.Solvable.{Fills, fills_exist, fills_agree}

module _ (c : Chain) where
  -- A value that counts on live states only.
  abbrev kept : (ℕ → ℕ) → ℕ → ℕ
  kept y i = only (test (dec_live c i)) (y i)

  kept_live : (y : ℕ → ℕ) (i : ℕ) → Live c i → kept y i ≡ y i
  kept_live y i l = rw (test_yes (dec_live c i) l)

  kept_else : (y : ℕ → ℕ) (i : ℕ) → (Live c i → ⊥) → kept y i ≡ 0
  kept_else y i n = rw (test_no (dec_live c i) n)

module _ (c : Chain) (sure : Missed c → ⊥) (pay : ℕ → ℕ) where
  live : (i : ℕ) → FromStart c i → (Goal c i → ⊥) → Live c i
  live i f n =
      record { unwon = n; reached = f; leads = (Dec.not-not (dec_to_goal c i)).0 (λ m. sure (i, f, m)) }

  -- Of the states that are reached only the live ones earn.
  kept_reached : {d : ℕ} {y : ℕ → ℕ} → Earns c pay d y → (i : ℕ) → FromStart c i → kept c y i ≡ y i
  kept_reached {d} {y} E i f = go (dec_goal c i)
    where
      go : Dec (Goal c i) → kept c y i ≡ y i
      go (yes g) = kept_else c y i (λ l. l.unwon g) ∙ sym (E.won i f g)
      go (no n) = kept_live c y i (live i f n)

  fills : {d : ℕ} {y : ℕ → ℕ} → Earns c pay d y → Fills c (Live c) (kept c pay) d (kept c y)
  fills {d} {y} E =
      record {
        whole = E.whole;
        given = λ i h n. rw (kept_else c y i n, kept_else c pay i n) (omega arith);
        flows = λ i h l.
            rw (kept_live c y i l, kept_live c pay i l)
            (E.flows i l.reached l.unwon
            ∙ rw (flow_ext c.edges i (kept c y) y (λ e k q. kept_reached E (to c.edges e) (target i l e k q))));
      }
    where
      target : (i : ℕ) → Live c i → (e : ℕ) → e < edge_count c.edges → from c.edges e ≡ i → FromStart c (to c.edges e)
      target i l e k q = FromStart.step e k (rw q l.reached) (rw q l.unwon)

module _ {c : Chain} (fine : Fine c) (inside : c.start < c.states) (sure : Missed c → ⊥) (pay : ℕ → ℕ) where
  pub earns_exist : (d : ℕ) × (y : ℕ → ℕ) × Earns c pay d y
  earns_exist =
      let (d, y, F) =
      fills_exist c fine (Live c) (dec_live c) (kept c pay) (λ i l. l.unwon) (λ i l. l.leads) in (
        d,
        y,
        record {
          whole = F.whole;
          won = λ i f g.
              let n : Live c i → ⊥ = λ l. l.unwon g in
              F.given i (reached_state fine inside f) n ∙ rw (kept_else c pay i n) (omega arith);
          flows = λ i f n.
              let l : Live c i = live c sure pay i f n in
              F.flows i (reached_state fine inside f) l ∙ rw (kept_live c pay i l);
        },
      )

  -- On the states that are reached.
  pub earns_agree : {d d' : ℕ} {y y' : ℕ → ℕ} → Earns c pay d y → Earns c pay d' y' → (i : ℕ) → FromStart c i → y i * d' ≡ y' i * d
  earns_agree E E' i f =
      rw (kept_reached c sure pay E i f, kept_reached c sure pay E' i f) at
      (fills_agree c fine (Live c) (dec_live c) (kept c pay) (λ i l. l.unwon) (λ i l. l.leads)
      (fills c sure pay E)
      (fills c sure pay E')
      i
      (reached_state fine inside f))
