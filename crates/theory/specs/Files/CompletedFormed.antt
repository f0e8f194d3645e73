-- What is left of a file meets no number where the lost records complete it to a well-formed chain and its order has no fault.
use Rattle.std.specs.Prelude.{ℕ, zero, suc, ◌+◌, ◌*◌, ◌≤◌, ◌<◌, ◌≡◌, refl, true, List, ◌++◌, length, get_or}
use Rattle.std.proofs.Common.{sym, ap, subst, ◌∙◌, inl, inr, ⊎_elim, arith}
use Rattle.meaning.specs.Chain.{most_edges, edge_size, edge_count, Chain, from, to, weight}
use Rattle.meaning.specs.Refusal.{chain_alone, bare, Misshaped, EndFault, WeightFault, PairFault, SumFault, OrderFault, Applies, Refused, WellFormed}
use Rattle.meaning.specs.Outcome.{Bounds}
use Rattle.meaning.specs.Demand.{ChanceBetween}
use Rattle.meaning.specs.Left.{short_rows, LeftOutcome}
use Rattle.meaning.specs.Block.{Input, head_states, head_edges, demanded, order_in}
use Rattle.meaning.specs.File.{orders_in, edge_in}
use Rattle.meaning.specs.Salvage.{Opened, Lost, edge_kept, kept_before, IndexOf, left_chain, left_in, Completes, lost_text, short_text, Salvaged}
use Rattle.meaning.specs.Text.{bytes_of}
use Rattle.meaning.specs.Report.{bounds_text, line_text}
use Rattle.theory.specs.Numbers.Tab.{tab_length}
use Rattle.theory.specs.Chains.Picked.{picked_edges, picked_small, picked_at}
use Rattle.theory.specs.Stages.Left.{with_edges}
use Rattle.theory.specs.Outcomes.Formed.{few_states, few_edges, row_sum_lem, room_enough}
use Rattle.theory.specs.Outcomes.OwnWork.{own_room}
use Rattle.theory.specs.Files.Opened.{index_exists, index_rises, opened_unrefused, accepted_unlost}
use Rattle.theory.specs.Files.SalvageOne.{verdicts_same}
use Rattle.theory.specs.Outcomes.Determined.{refused_unformed}
use Rattle.theory.specs.Outcomes.DemandThree.{bounds_figure_of}
use Rattle.theory.specs.Files.Completed.{same_chain, parted, salvage_holds}

module _ (f : Input) (v : ℕ → ℕ) (c : Chain) (completes : Completes f v c) (formed : WellFormed bare (chain_alone c)) where
  abbrev left : Chain
  left = left_chain f v

  -- The completed chain has head and states of what is left.
  abbrev completed : Chain
  completed = with_edges left c.edges

  whole_formed : WellFormed bare (chain_alone completed)
  whole_formed = subst (λ z. WellFormed bare (chain_alone z)) (same_chain f v c completes formed) formed

  kept_length : length left.edges ≡ edge_size * kept_before f v (head_edges f)
  kept_length = picked_edges (edge_kept f v) (edge_in f) (λ _. refl) (head_edges f)

  -- The kept edge j is one of the completed chain's, at its index.
  record Completed (j : ℕ) : Type 0 where
    pub at : ℕ
    pub index : IndexOf f v j at
    pub inside : at < edge_count c.edges
    pub source : from left.edges j ≡ from c.edges at
    pub target : to left.edges j ≡ to c.edges at
    pub weighs : weight left.edges j ≡ weight c.edges at

  completed_edge : (j : ℕ) → j < edge_count left.edges → Completed j
  completed_edge j h =
      let (e, i) = index_exists {f = f} {v = v} j (omega (arith, kept_length)) in
      let (source, target, weighs) = completes.kept e i.inside i.kept in
      let first : edge_size * j + 0 ≡ edge_size * j = omega arith in
      record {
        at = e;
        index = i;
        inside = omega (arith, i.inside, completes.edges);
        source = (rw first at (number e i 0 (omega arith))) ∙ sym source;
        target = number e i 1 (omega arith) ∙ sym target;
        weighs = number e i 2 (omega arith) ∙ sym weighs;
      }
    where
      number : (e : ℕ) → IndexOf f v j e → (k : ℕ) → k < edge_size → get_or left.edges (edge_size * j + k) 0 ≡ get_or (edge_in f e) k 0
      number e i k l =
          ap (λ z. get_or left.edges (edge_size * z + k) 0) (sym i.before)
          ∙ picked_at (edge_kept f v) (edge_in f) (λ _. refl) (head_edges f) e i.inside i.kept k l

  ends_right : (j : ℕ) → EndFault (head_states f) left.edges j → ⊥
  ends_right j (h, w) =
      let e = completed_edge j h in
      whole_formed.none 6 e.at (e.inside, ⊎_elim (λ l. inl (omega (arith, e.source, l))) (λ l. inr (omega (arith, e.target, l))) w)

  weights_right : (j : ℕ) → WeightFault left.edges j → ⊥
  weights_right j (h, w) =
      let e = completed_edge j h in
      whole_formed.none 7 e.at (e.inside, ⊎_elim (λ z. inl (omega (arith, e.weighs, z))) (λ l. inr (omega (arith, e.weighs, l))) w)

  pairs_right : (j : ℕ) → PairFault left.edges j → ⊥
  pairs_right j (h, (i, (l, w))) =
      let e = completed_edge j h in
      let d = completed_edge i (omega arith) in
      whole_formed.none 8 e.at
      (e.inside, (d.at, (index_rises d.index e.index l, (sym d.source ∙ w.0 ∙ e.source, sym d.target ∙ w.1 ∙ e.target))))

  -- The kept weights of a row are part of its sum.
  rows_right : (i : ℕ) → SumFault true (head_states f) left.denominators left.edges i → ⊥
  rows_right i (h, over) =
      omega (arith, over, parted f v c completes formed i (λ _. 1), row_sum_lem bare (chain_alone completed) whole_formed refl i h)

  few_kept : edge_count left.edges ≤ most_edges
  few_kept =
      omega (arith, kept_length, picked_small (edge_kept f v) (head_edges f), few_edges bare (chain_alone completed) whole_formed, completes.edges)

  shape_right : Misshaped short_rows (head_states f) (length left.denominators) (length left.edges) (length (orders_in f)) 0 → ⊥
  shape_right (Misshaped.no_states h) = whole_formed.none 1 0 (refl, Misshaped.no_states h)
  shape_right (Misshaped.many_states h) = whole_formed.none 1 0 (refl, Misshaped.many_states h)
  shape_right (Misshaped.denominators_length h) = whole_formed.none 1 0 (refl, Misshaped.denominators_length h)
  shape_right (Misshaped.edges_ragged h) = h (omega (arith, kept_length))
  shape_right (Misshaped.many_edges h) = omega (arith, few_kept)
  shape_right (Misshaped.few_edges h) = omega arith
  shape_right (Misshaped.order_length h) = h (tab_length 0 (head_states f) (order_in f))
  shape_right (Misshaped.rewards_length h) = h refl

  -- The order is the file's own: 10 is asked of it alone.
  module _ (ordered : (p : ℕ) → OrderFault (head_states f) (orders_in f) p → ⊥) where
    none_left : (k p : ℕ) → Applies short_rows (left_in f v) k p → ⊥
    none_left zero p a = a
    none_left (suc zero) p a = shape_right a.1
    none_left (suc (suc zero)) p a =
        room_enough (own_room (head_states f) (few_states bare (chain_alone completed) whole_formed)) (omega arith) a.1
    none_left (suc (suc (suc zero))) p a = whole_formed.none 3 p a
    none_left (suc (suc (suc (suc zero)))) p a = whole_formed.none 4 p a
    none_left (suc (suc (suc (suc (suc zero))))) p a = whole_formed.none 5 p a
    none_left (suc (suc (suc (suc (suc (suc zero)))))) p a = ends_right p a
    none_left (suc (suc (suc (suc (suc (suc (suc zero))))))) p a = weights_right p a
    none_left (suc (suc (suc (suc (suc (suc (suc (suc zero)))))))) p a = pairs_right p a
    none_left (suc (suc (suc (suc (suc (suc (suc (suc (suc zero))))))))) p a = rows_right p a
    none_left (suc (suc (suc (suc (suc (suc (suc (suc (suc (suc zero)))))))))) p a = ordered p a
    none_left (suc (suc (suc (suc (suc (suc (suc (suc (suc (suc (suc zero))))))))))) p a = a
    none_left (suc (suc (suc (suc (suc (suc (suc (suc (suc (suc (suc (suc k)))))))))))) p a = a

    pub completed_formed : WellFormed short_rows (left_in f v)
    completed_formed = record { none = none_left }

    -- So the chance of every well-formed completion lies between the two fractions, with nothing asked of what is left but its order.
    pub completed_holds : (a : Bounds) (w : List ℕ) → LeftOutcome (left_in f v) a w → ChanceBetween c a
    completed_holds a w o = salvage_holds f v c completes formed completed_formed a (bounds_figure_of completed_formed o)

    -- And the text says so: where a block is lost it is the line of two such fractions, and then the lost blocks and the rows that fell short.
    pub salvaged_holds : Opened f v → Lost v → (t : List ℕ) → Salvaged f t
        → (a : Bounds) × ChanceBetween c a × (t ≡ line_text (bytes_of "bounds ") (bounds_text a) ++ lost_text v (demanded f) ++ short_text left (head_states f))
    salvaged_holds opened lost t (Salvaged.file_refused n p r e) = absurd (opened_unrefused opened r)
    salvaged_holds opened lost t (Salvaged.whole_refused n p a r e) = absurd (accepted_unlost opened a lost)
    salvaged_holds opened lost t (Salvaged.whole a w b k o e) = absurd (accepted_unlost opened a lost)
    salvaged_holds opened lost t (Salvaged.left_refused u o l n p q r i e) =
        absurd (refused_unformed (subst (λ z. Refused short_rows (left_in f z) n p) (verdicts_same o opened) r) completed_formed)
    salvaged_holds opened lost t (Salvaged.left u o l w a k b e) =
        let same : u ≡ v = verdicts_same o opened in (
          a,
          completed_holds a k (subst (λ z. LeftOutcome (left_in f z) a k) same b),
          e ∙ ap (λ z. line_text (bytes_of "bounds ") (bounds_text a) ++ lost_text z (demanded f) ++ short_text (left_chain f z) (head_states f)) same,
        )
