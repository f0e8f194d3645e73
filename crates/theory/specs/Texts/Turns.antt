-- The lines of a chain in their turns: what has come when a line's turn comes, and which line then comes next.
use Rattle.std.specs.Prelude.{ℕ, zero, suc, ◌+◌, ◌-◌, ◌≤◌, ◌<◌, ◌≡◌, length, get_or}
use Rattle.std.proofs.Common.{arith, sym, ◌∙◌, length-append}
use Rattle.std.proofs.Math.Path.{ap}
use mathlib.Core.List.{List, [], ◌∷◌, ◌++◌, append_assoc, head-eq_of_cons-eq, tail-eq_of_cons-eq}
use Rattle.std.proofs.Math.ListN.{get_or-append}
use Rattle.std.proofs.Math.Seq.{append_snoc}
use Rattle.std.proofs.lemmas.List.{get_or_at}
use Rattle.meaning.specs.Number.{tab_from}
use Rattle.meaning.specs.Chain.{edge_count}
use Rattle.meaning.specs.Refusal.{Lent}
use Rattle.meaning.specs.Text.{bytes_of}
use Rattle.meaning.specs.Report.{named_text}
use Rattle.meaning.specs.ChainText.{order_line, state_line_of, edge_line_of, chain_lines}
use Rattle.theory.specs.Numbers.Tab.{tab_at, tab_length, tab_more, tab_ext}
use Rattle.theory.specs.Texts.Lines.{named_last}
use Rattle.theory.specs.Texts.ChainOne.{back_one}

-- A table in two parts.
tab_parts {ℓ} : {A : Type ℓ} (k a b : ℕ) (f : ℕ → A) → tab_from k (a + b) f ≡ tab_from k a f ++ tab_from (k + a) b f
unfolding tab_from
tab_parts k zero b f =
    let z : 0 + b ≡ b = omega arith in
    let w : k + 0 ≡ k = omega arith in
    rw (z, w)
tab_parts k (suc a) b f =
    let z : suc a + b ≡ suc (a + b) = omega arith in
    let w : suc k + a ≡ k + suc a = omega arith in
    rw z (ap (λ (s : List _). f k ∷ s) (tab_parts (suc k) a b f ∙ ap (λ s. tab_from (suc k) a f ++ tab_from s b f) w))

-- A table with one entry more.
tab_grown {ℓ} : {A : Type ℓ} (i : ℕ) (f g : ℕ → A) → ((j : ℕ) → j < i → f j ≡ g j) → tab_from 0 (i + 1) f ≡ tab_from 0 i g ++ (f i ∷ [])
tab_grown i f g h = tab_more i f ∙ ap (λ z. z ++ (f i ∷ [])) (tab_ext i f g h)

-- The first lines, and what has come before the line of state i, and of edge e.
abbrev pub states_line : Lent → List ℕ
states_line l = named_text (bytes_of "states ") l.chain.states

abbrev pub edges_line : Lent → List ℕ
edges_line l = named_text (bytes_of "edges ") (edge_count l.chain.edges)

abbrev pub start_line : Lent → List ℕ
start_line l = named_text (bytes_of "start ") l.chain.start

abbrev pub to_state : Lent → ℕ → List (List ℕ)
to_state l i = states_line l ∷ edges_line l ∷ start_line l ∷ tab_from 0 i (state_line_of l)

abbrev pub to_edge : Lent → ℕ → List (List ℕ)
to_edge l e = to_state l l.chain.states ++ (order_line l.order ∷ tab_from 0 e (edge_line_of l))

abbrev Lines : Type 0
Lines = List (List ℕ)

-- What comes after them.
pub rest_states : (l : Lent) (i : ℕ) → i ≤ l.chain.states → (rest : Lines) × (chain_lines l ≡ to_state l i ++ rest)
rest_states l i h =
    let n = l.chain.states in
    let parts : tab_from 0 n (state_line_of l) ≡ tab_from 0 i (state_line_of l) ++ tab_from (0 + i) (n - i) (state_line_of l) =
    ap (λ z. tab_from 0 z (state_line_of l)) (omega arith) ∙ tab_parts 0 i (n - i) (state_line_of l) in
    let last : Lines = order_line l.order ∷ tab_from 0 (edge_count l.chain.edges) (edge_line_of l) in (
      tab_from (0 + i) (n - i) (state_line_of l) ++ last,
      ap (λ (z : Lines). states_line l ∷ edges_line l ∷ start_line l ∷ z)
          (ap (λ (z : Lines). z ++ last) parts ∙ append_assoc (tab_from 0 i (state_line_of l)) (tab_from (0 + i) (n - i) (state_line_of l)) last),
    )

pub rest_edges : (l : Lent) (e : ℕ) → e ≤ edge_count l.chain.edges → (rest : Lines) × (chain_lines l ≡ to_edge l e ++ rest)
rest_edges l e h =
    let m = edge_count l.chain.edges in
    let parts : tab_from 0 m (edge_line_of l) ≡ tab_from 0 e (edge_line_of l) ++ tab_from (0 + e) (m - e) (edge_line_of l) =
    ap (λ z. tab_from 0 z (edge_line_of l)) (omega arith) ∙ tab_parts 0 e (m - e) (edge_line_of l) in (
      tab_from (0 + e) (m - e) (edge_line_of l),
      ap (λ (z : Lines). to_state l l.chain.states ++ (order_line l.order ∷ z)) parts
          ∙ sym (append_assoc (to_state l l.chain.states) (order_line l.order ∷ tab_from 0 e (edge_line_of l)) (tab_from (0 + e) (m - e) (edge_line_of l))),
    )

-- The next line of a chain whose lines begin in the same way.
module _ (l m : Lent) (line : List ℕ) (rest : Lines) where
  pub next_states : chain_lines m ≡ ([] ++ (line ∷ [])) ++ rest → line ≡ states_line m
  next_states e = sym (head-eq_of_cons-eq e)

  pub next_edges : chain_lines m ≡ ((states_line l ∷ []) ++ (line ∷ [])) ++ rest → line ≡ edges_line m
  next_edges e = sym (head-eq_of_cons-eq (tail-eq_of_cons-eq e))

  pub next_start : chain_lines m ≡ ((states_line l ∷ edges_line l ∷ []) ++ (line ∷ [])) ++ rest → line ≡ start_line m
  next_start e = sym (head-eq_of_cons-eq (tail-eq_of_cons-eq (tail-eq_of_cons-eq e)))

  module _ (i : ℕ) (e : chain_lines m ≡ (to_state l i ++ (line ∷ [])) ++ rest) where
    pub same_states : m.chain.states ≡ l.chain.states
    same_states = named_last (bytes_of "states ") _ _ (head-eq_of_cons-eq e)

    later : tab_from 0 m.chain.states (state_line_of m) ++ (order_line m.order ∷ tab_from 0 (edge_count m.chain.edges) (edge_line_of m))
        ≡ tab_from 0 i (state_line_of l) ++ (line ∷ rest)
    later =
        tail-eq_of_cons-eq (tail-eq_of_cons-eq (tail-eq_of_cons-eq e)) ∙ append_snoc (tab_from 0 i (state_line_of l)) line rest

    pub next_state : i < l.chain.states → line ≡ state_line_of m i
    next_state h =
        sym (get_or_at (tab_from 0 i (state_line_of l)) line rest [] i (tab_length 0 i (state_line_of l)))
        ∙ ap (λ (z : Lines). get_or z i []) (sym later)
        ∙ get_or-append (tab_from 0 m.chain.states (state_line_of m)) _ [] i (omega (arith, same_states, tab_length 0 m.chain.states (state_line_of m)))
        ∙ tab_at m.chain.states (state_line_of m) [] i (omega (arith, same_states))

    pub next_order : i ≡ l.chain.states → line ≡ order_line m.order
    next_order h =
        sym (get_or_at (tab_from 0 i (state_line_of l)) line rest [] i (tab_length 0 i (state_line_of l)))
        ∙ ap (λ (z : Lines). get_or z i []) (sym later)
        ∙ get_or_at (tab_from 0 m.chain.states (state_line_of m)) _ _ [] i (tab_length 0 m.chain.states (state_line_of m) ∙ same_states ∙ sym h)

  module _ (k : ℕ) (e : chain_lines m ≡ (to_edge l k ++ (line ∷ [])) ++ rest) where
    pub edge_states : m.chain.states ≡ l.chain.states
    edge_states = named_last (bytes_of "states ") _ _ (head-eq_of_cons-eq e)

    pub edge_edges : edge_count m.chain.edges ≡ edge_count l.chain.edges
    edge_edges = named_last (bytes_of "edges ") _ _ (head-eq_of_cons-eq (tail-eq_of_cons-eq e))

    edges_later : tab_from 0 (edge_count m.chain.edges) (edge_line_of m) ≡ tab_from 0 k (edge_line_of l) ++ (line ∷ rest)
    edges_later =
        let states = tab_from 0 l.chain.states (state_line_of l) in
        let edges = tab_from 0 k (edge_line_of l) in
        let long = tab_length 0 m.chain.states (state_line_of m) ∙ edge_states ∙ sym (tab_length 0 l.chain.states (state_line_of l)) in
        tail-eq_of_cons-eq
        (back_one (tab_from 0 m.chain.states (state_line_of m)) _ states (order_line l.order ∷ (edges ++ (line ∷ rest))) long
        (tail-eq_of_cons-eq (tail-eq_of_cons-eq (tail-eq_of_cons-eq e))
        ∙ append_snoc (states ++ (order_line l.order ∷ edges)) line rest
        ∙ append_assoc states (order_line l.order ∷ edges) (line ∷ rest)))

    pub next_edge : k < edge_count l.chain.edges → line ≡ edge_line_of m k
    next_edge h =
        sym (get_or_at (tab_from 0 k (edge_line_of l)) line rest [] k (tab_length 0 k (edge_line_of l)))
        ∙ ap (λ (z : Lines). get_or z k []) (sym edges_later)
        ∙ tab_at (edge_count m.chain.edges) (edge_line_of m) [] k (omega (arith, edge_edges))

    pub next_none : k ≡ edge_count l.chain.edges → ⊥
    next_none h =
        let z = ap length edges_later in
        omega (arith, z, edge_edges, tab_length 0 (edge_count m.chain.edges) (edge_line_of m), length-append (tab_from 0 k (edge_line_of l)) (line ∷ rest), tab_length 0 k (edge_line_of l))

-- The lines that have come, with one more.
module _ (l m : Lent) where
  pub more_states : (i : ℕ) → states_line m ≡ states_line l → edges_line m ≡ edges_line l → start_line m ≡ start_line l
      → ((j : ℕ) → j < i → state_line_of m j ≡ state_line_of l j) → to_state m (i + 1) ≡ to_state l i ++ (state_line_of m i ∷ [])
  more_states i a b c f = let t = tab_grown i (state_line_of m) (state_line_of l) f in λ x. a x ∷ b x ∷ c x ∷ t x

  pub more_order : (i : ℕ) → i ≡ m.chain.states → states_line m ≡ states_line l → edges_line m ≡ edges_line l → start_line m ≡ start_line l
      → ((j : ℕ) → j < i → state_line_of m j ≡ state_line_of l j) → to_edge m 0 ≡ to_state l i ++ (order_line m.order ∷ [])
  unfolding tab_from
  more_order i h a b c f =
      let t = ap (λ z. tab_from 0 z (state_line_of m)) (sym h) ∙ tab_ext i (state_line_of m) (state_line_of l) f in
      λ x. a x ∷ b x ∷ c x ∷ (t x ++ (order_line m.order ∷ []))

  pub more_edges : (e : ℕ) → m.chain.states ≡ l.chain.states → edges_line m ≡ edges_line l → start_line m ≡ start_line l
      → ((j : ℕ) → j < l.chain.states → state_line_of m j ≡ state_line_of l j) → m.order ≡ l.order
      → ((j : ℕ) → j < e → edge_line_of m j ≡ edge_line_of l j) → to_edge m (e + 1) ≡ to_edge l e ++ (edge_line_of m e ∷ [])
  more_edges e a b c f o g =
      let n = l.chain.states in
      let s = ap (named_text (bytes_of "states ")) a in
      let t = ap (λ z. tab_from 0 z (state_line_of m)) a ∙ tab_ext n (state_line_of m) (state_line_of l) f in
      let u = tab_grown e (edge_line_of m) (edge_line_of l) g in
      let all : to_edge m (e + 1) ≡ to_state l n ++ (order_line l.order ∷ (tab_from 0 e (edge_line_of l) ++ (edge_line_of m e ∷ []))) =
      λ x. s x ∷ b x ∷ c x ∷ (t x ++ (order_line (o x) ∷ u x)) in
      all ∙ sym (append_assoc (to_state l n) (order_line l.order ∷ tab_from 0 e (edge_line_of l)) (edge_line_of m e ∷ []))
