-- A text is read line by line, up to a line that is wrong or to its end.
use Prim.Native.Nat.{ℕ, suc, ◌+◌, ◌≤◌, ◌<◌}
use native.Mathlib.Omega.{arith}
use native.Mathlib.Numerals.{add-one}
use mathlib.Core.Path.{◌≡◌, refl, sym, ap, subst, ◌∙◌}
use mathlib.Core.Bool.{true, false}
use mathlib.Core.Logic.{⊎_elim}
use mathlib.Core.List.{List, [], ◌∷◌, ◌++◌, append-nil, head-eq_of_cons-eq, tail-eq_of_cons-eq}
use lib.ListN.{length, drop, length-append, length-drop, drop_of_length-le}
use borrow.Author.Tests.{lt-ltb, le-ltb}
use Rattle.meaning.specs.Number.{tab_from}
use Rattle.meaning.specs.Chain.{edge_count}
use Rattle.meaning.specs.Refusal.{Lent}
use Rattle.meaning.specs.File.{Tables}
use Rattle.meaning.specs.Text.{bytes_of}
use Rattle.meaning.specs.ChainText.{order_line, state_line_of, edge_line_of, chain_lines, text_of, OneLine, LinesOf, none, unended, ended, passed, said, Begins, line_missing}
use Rattle.theory.specs.Numbers.Sum.{below}
use Rattle.theory.specs.Numbers.Tab.{tab_length}
use Rattle.theory.specs.Texts.Lines.{named_last}
use Rattle.theory.specs.Texts.Split.{said_append}
use Rattle.theory.specs.Texts.Turns.{states_line, edges_line, start_line, to_state, to_edge, rest_states, rest_edges}
use Rattle.theory.specs.Texts.Ended.{lines_of, EachLine, each_none, each_last, lines_join, part, part_rest, part_ended, text_further, refused_at}
use Rattle.chaintext.specs.Split.{LineEnd}
use Rattle.chaintext.specs.Turns.{held_lent, Cells, Ready, so_far, taken, TakenAs}
use Rattle.chaintext.specs.Read.{unfinished, finished, Passed, passed_as, PassedAs, ReadAs}
use Rattle.chaintext.specs.declared.turns.Turn.{Turn}
use Rattle.chaintext.specs.declared.turns.Turn.TheVariants.{States, Edges, Start, State, Edge}
use Rattle.chaintext.specs.declared.turns.Held.{Held}
use Rattle.std.proofs.Common.{Option, Some, None}
use Rattle.chaintext.proofs.Turning.{held, count_is, storable}

-- A line that is passed over, or taken.
said_passed : (line : List ℕ) → true ≡ passed line → said (line ∷ []) ≡ []
unfolding said
said_passed line e = rw (← e)

said_kept : (line : List ℕ) → false ≡ passed line → said (line ∷ []) ≡ line ∷ []
unfolding said
said_kept line e = rw (← e)

module _ {turn : Turn} {h : Held} {t : Tables} {line : List ℕ} where
  pub step_passed : Ready turn h t → true ≡ passed line → PassedAs turn h t line t (Some (turn, h))
  step_passed r e =
      let now = so_far turn (held_lent h t) in
      record { told = record { ready = r; lines = sym (ap (λ z. now ++ z) (said_passed line e) ∙ append-nil now) } }

  pub step_taken : {t' : Tables} {a : Option (Turn × Held)} → false ≡ passed line → TakenAs turn h t line t' a → PassedAs turn h t line t' a
  step_taken {t'} {a} e s = record { told = go a s.told }
    where
      go : (a : Option (Turn × Held)) → taken turn h t line t' a → passed_as turn h t line t' a
      go (Some p) s =
          record { ready = s.ready; lines = s.lines ∙ ap (λ z. so_far turn (held_lent h t) ++ z) (sym (said_kept line e)) }
      go None s = λ b. s (subst (λ (z : List (List ℕ)). Begins (so_far turn (held_lent h t) ++ z)) (said_kept line e) b)

-- The lines that have come begin a chain's.
begins_at : (turn : Turn) {h : Held} {t : Tables} → Ready turn h t → Begins (so_far turn (held_lent h t))
begins_at States {h} {t} r = let l = held_lent h t in (l, chain_lines l, storable r, refl)
begins_at Edges {h} {t} r =
    let l = held_lent h t in (
      l,
      edges_line l ∷ start_line l ∷ (tab_from 0 h.states (state_line_of l) ++ (order_line l.order ∷ tab_from 0 (edge_count l.chain.edges) (edge_line_of l))),
      storable r,
      refl,
    )
begins_at Start {h} {t} r =
    let l = held_lent h t in (
      l,
      start_line l ∷ (tab_from 0 h.states (state_line_of l) ++ (order_line l.order ∷ tab_from 0 (edge_count l.chain.edges) (edge_line_of l))),
      storable r,
      refl,
    )
begins_at (State i) {h} {t} r = let l = held_lent h t in let z = rest_states l i r.turn_fits_lem.0 in (l, z.0, storable r, z.1)
begins_at (Edge e) {h} {t} r =
    let l = held_lent h t in let z = rest_edges l e (omega (arith, r.turn_fits_lem.0, count_is r)) in (l, z.0, storable r, z.1)

-- How many lines a chain has, and how many have come.
chain_length : (m : Lent) → length (chain_lines m) ≡ 4 + m.chain.states + edge_count m.chain.edges
chain_length m =
    let states = tab_from 0 m.chain.states (state_line_of m) in
    let edges = tab_from 0 (edge_count m.chain.edges) (edge_line_of m) in
    let z = length-append states (order_line m.order ∷ edges) in
    omega (arith, z, tab_length 0 m.chain.states (state_line_of m), tab_length 0 (edge_count m.chain.edges) (edge_line_of m))

same_states : (l m : Lent) (rest : List (List ℕ)) → chain_lines m ≡ states_line l ∷ rest → m.chain.states ≡ l.chain.states
same_states l m rest e = named_last (bytes_of "states ") _ _ (head-eq_of_cons-eq e)

same_edges : (l m : Lent) (rest : List (List ℕ)) → chain_lines m ≡ states_line l ∷ edges_line l ∷ rest
    → edge_count m.chain.edges ≡ edge_count l.chain.edges
same_edges l m rest e = named_last (bytes_of "edges ") _ _ (head-eq_of_cons-eq (tail-eq_of_cons-eq e))

-- They are not all of a chain's lines.
short_states : (l m : Lent) (i : ℕ) → i ≤ l.chain.states → chain_lines m ≡ to_state l i → ⊥
short_states l m i h e =
    omega (arith, ap length e, chain_length m, same_states l m _ e, tab_length 0 i (state_line_of l))

short_edges : (l m : Lent) (k : ℕ) → k < edge_count l.chain.edges → chain_lines m ≡ to_edge l k → ⊥
short_edges l m k h e =
    omega (arith, ap length e, chain_length m, same_states l m _ e, same_edges l m _ e, length-append (to_state l l.chain.states) (order_line l.order ∷ tab_from 0 k (edge_line_of l)), tab_length 0 l.chain.states (state_line_of l), tab_length 0 k (edge_line_of l))

-- The end of the text.
module _ {text : List ℕ} {lines : List (List ℕ)} (split : LinesOf text lines) where
  missing : (turn : Turn) {h : Held} {t : Tables} → Ready turn h t → said lines ≡ so_far turn (held_lent h t)
      → ((m : Lent) → chain_lines m ≡ so_far turn (held_lent h t) → ⊥) → ReadAs text t (unfinished (length lines))
  missing turn {h} {t} r e f =
      record {
        told = (
          refl,
          rw add-one
              (line_missing lines split (subst Begins (sym e) (begins_at turn r)) (λ m p q. f m (q ∙ e))),
        );
      }

  ends_at : (turn : Turn) {h : Held} {t : Tables} → Ready turn h t → said lines ≡ so_far turn (held_lent h t)
      → ReadAs text t (finished turn h (length lines))
  ends_at States {h} {t} r e = missing States r e (λ m q. let z : ◌≡◌ {A = ℕ} (length (chain_lines m)) 0 = ap length q in omega (arith, chain_length m))
  ends_at Edges {h} {t} r e = missing Edges r e (λ m q. let z : ◌≡◌ {A = ℕ} (length (chain_lines m)) 1 = ap length q in omega (arith, chain_length m))
  ends_at Start {h} {t} r e = missing Start r e (λ m q. let z : ◌≡◌ {A = ℕ} (length (chain_lines m)) 2 = ap length q in omega (arith, chain_length m))
  ends_at (State i) {h} {t} r e = missing (State i) r e (λ m q. short_states (held_lent h t) m i r.turn_fits_lem.0 q)
  ends_at (Edge k) {h} {t} r e =
      ⊎_elim
      (λ (b : k < h.edges).
      rw (lt-ltb k h.edges b) (missing (Edge k) r e (λ m q. short_edges (held_lent h t) m k (omega (arith, count_is r)) q)))
      (λ (b : h.edges ≤ k).
      let all : k ≡ h.edges = omega (arith, r.turn_fits_lem.0) in
      rw (le-ltb k h.edges b)
      (record {
        told = record {
          ready = subst (λ (z : ℕ). Ready (Edge z) h t) all r;
          says = record {
            lines = lines;
            split = split;
            storable = storable r;
            says = sym (e ∙ ap (to_edge (held_lent h t)) (all ∙ sym (count_is r)));
          };
        };
      }))
      (below k h.edges)

one_line : (l : List ℕ) → 0 < length l → OneLine l → LinesOf l (l ∷ [])
one_line [] h o = absurd (omega arith)
one_line (x ∷ l) h o = unended x l o

-- So many lines have come, up to a place.
pub record Progress (text : List ℕ) (number at : ℕ) (turn : Turn) (h : Held) (t : Tables) : Type 0 where
  pub lines : List (List ℕ)
  pub each : EachLine lines
  pub cut : text ≡ text_of lines ++ drop at text
  pub inside : at ≤ length text
  pub count : number ≡ length lines
  pub small : number ≤ at
  pub ready : Ready turn h t
  pub come : said lines ≡ so_far turn (held_lent h t)

pub progress_none : {text : List ℕ} {t : Tables} → Cells t → Progress text 0 0 States (held 1 1 0 0) t
unfolding text_of said
progress_none c =
    record {
      lines = [];
      each = each_none;
      cut = refl;
      inside = omega arith;
      count = refl;
      small = omega arith;
      ready = record {
        cells = c;
        some_states = omega arith;
        few_states = omega arith;
        some_edges = omega arith;
        few_edges = omega arith;
        start_fits = omega arith;
        turn_fits_lem = refl;
      };
      come = refl;
    }

module _ {text : List ℕ} {number at : ℕ} {turn : Turn} {h : Held} {t : Tables} (p : Progress text number at turn h t) where
  pub progress_done : length text ≤ at → ReadAs text t (finished turn h number)
  progress_done b =
      let all : LinesOf text p.lines =
      subst (λ (z : List ℕ). LinesOf z p.lines) (sym (p.cut ∙ ap (λ z. text_of p.lines ++ z) (drop_of_length-le text b)))
      (subst (λ (z : List (List ℕ)). LinesOf (text_of p.lines ++ []) z) (append-nil p.lines) (lines_join p.each none)) in
      rw p.count (ends_at all turn p.ready p.come)

  module _ {end : ℕ} (e : LineEnd text at end) (some : at < length text) {t' : Tables} {a : Option (Turn × Held)} (s : PassedAs turn h t (part text at end) t' a) where
    -- The lines from this one on.
    joined : {ms : List (List ℕ)} → LinesOf (drop at text) ms → LinesOf text (p.lines ++ ms)
    joined {ms} r = subst (λ (z : List ℕ). LinesOf z (p.lines ++ ms)) (sym p.cut) (lines_join p.each r)

    here_ended : end < length text → LinesOf (drop at text) (part text at end ∷ (lines_of (drop (end + 1) text)).0)
    here_ended b =
        let r = lines_of (drop (end + 1) text) in
        subst (λ (z : List ℕ). LinesOf z (part text at end ∷ r.0)) (sym (part_ended text at end e.from_place b (e.stops b)))
        (ended (part text at end) (drop (end + 1) text) r.0 e.line r.1)

    here_last : end ≡ length text → LinesOf (drop at text) (part text at end ∷ [])
    here_last b =
        let whole : drop at text ≡ part text at end =
        part_rest text at end e.from_place ∙ ap (λ z. part text at end ++ z) (drop_of_length-le text {i = end} (omega arith)) ∙ append-nil (part text at end) in
        subst (λ (z : List ℕ). LinesOf z (part text at end ∷ [])) (sym whole)
        (one_line (part text at end) (omega (arith, ap length whole, length-drop at text)) e.line)

    wrong_in : (ms : List (List ℕ)) → LinesOf text (p.lines ++ (part text at end ∷ ms)) → a ≡ None → ReadAs text t' (unfinished number)
    wrong_in ms r q =
        let z : number + 1 ≡ suc (length p.lines) = omega (arith, p.count) in
        record {
          told = (
            refl,
            rw z
                (refused_at p.lines ms (part text at end) r (subst Begins (sym p.come) (begins_at turn p.ready))
                (λ b.
                subst (passed_as turn h t (part text at end) t') q s.told
                (subst (λ (y : List (List ℕ)). Begins (y ++ said (part text at end ∷ []))) p.come b))),
          );
        }

    pub progress_wrong : a ≡ None → ReadAs text t' (unfinished number)
    progress_wrong q =
        ⊎_elim
        (λ (b : end < length text). wrong_in _ (joined (here_ended b)) q)
        (λ (b : length text ≤ end). wrong_in _ (joined (here_last (omega (arith, e.inside)))) q)
        (below end (length text))

    module _ {turn' : Turn} {h' : Held} (q : a ≡ Some (turn', h')) where
      next : Passed turn h t (part text at end) turn' h' t'
      next = subst (passed_as turn h t (part text at end) t') q s.told

      come_next : said (p.lines ++ (part text at end ∷ [])) ≡ so_far turn' (held_lent h' t')
      come_next = said_append p.lines (part text at end ∷ []) ∙ ap (λ z. z ++ said (part text at end ∷ [])) p.come ∙ sym next.lines

      pub progress_more : end < length text → Progress text (number + 1) (end + 1) turn' h' t'
      progress_more b =
          record {
            lines = p.lines ++ (part text at end ∷ []);
            each = each_last p.each e.line;
            cut = text_further text at end e.from_place b (e.stops b) p.lines p.cut;
            inside = omega arith;
            count = omega (arith, p.count, length-append p.lines (part text at end ∷ []));
            small = omega (arith, p.small, e.from_place);
            ready = next.ready;
            come = come_next;
          }

      pub progress_last : end ≡ length text → ReadAs text t' (finished turn' h' (number + 1))
      progress_last b =
          let z : number + 1 ≡ length (p.lines ++ (part text at end ∷ [])) = omega (arith, p.count, length-append p.lines (part text at end ∷ [])) in
          rw z (ends_at (joined (here_last b)) turn' next.ready come_next)
