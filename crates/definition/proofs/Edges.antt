-- THE EDGES OF WHAT IS ACCEPTED, as 01 and 02 name them: one table of calls just inside and just outside, and one theorem, by computing; how many variables are too
-- many; and that longer slices are accepted where shorter ones are.
use Rattle.std.specs.Prelude.{ℕ, zero, suc, ◌<◌, ◌≡◌, Bool, true, false, ◌||◌, List, [], ◌∷◌, ◌++◌, ltb, length, replicate}
use Rattle.std.proofs.Common.{arith, ◌∙◌, ltb→lt}
use Rattle.std.proofs.Math.Path.{refl}
use Rattle.std.proofs.Math.Bool.{or-false}
use Rattle.std.proofs.Math.Option.{none, some}
use Rattle.std.proofs.lemmas.List.{length-replicate, get_or-replicate}
use Rattle.std.specs.Float.Ieee.{eq, is_nan, of_bits, round, of_int, nan}
use Rattle.floats.specs.Num.{choose, 0f, is_finite}
use Rattle.definition.specs.Model.{Model}
use Rattle.definition.specs.Cases.{writing}
use Rattle.definition.specs.Refusal.{Lent, MAX_VARS, floats_needed, numbers_needed, adjacency_needed, some_below, vars, rows, terms, lengths_disagree}
use Rattle.definition.specs.Refusal.{too_large, starts_wrong, indices_wrong, rows_long, domain_wrong, codes_wrong, bound_wrong, bounds_wrong, obj_wrong, numbers_wrong}
use Rattle.definition.specs.Refusal.{rhses_wrong, tolerances_wrong, too_short, shortest, earliest, refusal, judging}
use Rattle.definition.specs.Choices.{equal, bool_false}
use Rattle.definition.specs.Edges.{counting, long, edges, expected, refusals, wide}

-- ---- lent slices matter to refusal 10 alone
pub last_alone : (cs : List (ℕ × Bool)) (k : ℕ) (c d : Bool) → earliest (cs ++ ((k, c) ∷ [])) ≡ none → d ≡ false → earliest (cs ++ ((k, d) ∷ [])) ≡ none
unfolding earliest choose
last_alone [] k c d e z = rw z refl
last_alone ((n, true) ∷ cs) k c d e z = e
last_alone ((n, false) ∷ cs) k c d e z = last_alone cs k c d e z

-- a model that is accepted with some slices is accepted with any of which none is too short
pub longer_accepted : (M : Model) (K L : Lent) → refusal M K ≡ none → too_short M L ≡ false → refusal M L ≡ none
unfolding refusal
longer_accepted M K L =
    last_alone
    ((1, lengths_disagree M) ∷ (2, too_large M) ∷ (3, starts_wrong M) ∷ (4, indices_wrong M) ∷ (18, rows_long M) ∷ (5, codes_wrong M) ∷ (6, bounds_wrong M)
    ∷ (7, numbers_wrong M) ∷ (8, rhses_wrong M) ∷ (9, tolerances_wrong M) ∷ [])
    10 (too_short M K) (too_short M L)

pub ltb_same : (n : ℕ) → ltb n n ≡ false
ltb_same n = bool_false (ltb n n) (λ t. let l = ltb→lt n n t in omega arith)

-- the shortest slices are long enough
pub shortest_enough : (M : Model) → too_short M (shortest M) ≡ false
unfolding too_short shortest
shortest_enough M =
    let v = vars M in
    let r = rows M in
    let t = terms M in
    rw (ltb_same v, ltb_same r, ltb_same t, ltb_same (floats_needed v r t), ltb_same (numbers_needed v r t), ltb_same (adjacency_needed v t)) refl

pub edges_judged : refusals edges ≡ expected edges
unfolding edges refusals expected counting long round of_int writing judging
edges_judged = refl

pub none_below : (t : ℕ → Bool) (n : ℕ) → ((k : ℕ) → k < n → t k ≡ false) → some_below t n ≡ false
unfolding some_below
none_below t zero h = refl
none_below t (suc n) h = rw (none_below t n (λ k l. h k (omega arith)), h n (omega arith)) refl

module _ (n : ℕ) where
  pub size : {A : Type 0} (a : A) → length (replicate n a) ≡ n
  size a = length-replicate n a

  pub agree : lengths_disagree (wide n) ≡ false
  unfolding wide lengths_disagree
  agree = rw (size 0f, size {A = ℕ} 0, equal n) refl

  pub codes : codes_wrong (wide n) ≡ false
  unfolding wide codes_wrong domain_wrong some_below
  codes = rw (none_below (domain_wrong (wide n)) (length (replicate n 0f)) (λ k l. rw (get_or-replicate {A = ℕ} n k 0 0 (omega (arith, l, size 0f))) refl)) refl

  pub bounds : bounds_wrong (wide n) ≡ false
  unfolding wide bounds_wrong bound_wrong is_nan eq of_bits
  bounds = none_below (bound_wrong (wide n)) (length (replicate n 0f)) (λ k l. rw (get_or-replicate n k 0f nan (omega (arith, l, size 0f))) refl)

  pub numbers : numbers_wrong (wide n) ≡ false
  unfolding wide numbers_wrong obj_wrong some_below is_finite of_bits
  numbers = rw (none_below (obj_wrong (wide n)) (length (replicate n 0f)) (λ k l. rw (get_or-replicate n k 0f nan (omega (arith, l, size 0f))) refl)) refl

  pub large : too_large (wide n) ≡ ltb MAX_VARS n
  unfolding wide too_large
  large = rw (size 0f) (or-false (ltb MAX_VARS n || false) ∙ or-false (ltb MAX_VARS n))

  -- what looks at no variable
  pub others : (starts_wrong (wide n) ≡ false) × (indices_wrong (wide n) ≡ false) × (rows_long (wide n) ≡ false) × (rhses_wrong (wide n) ≡ false) × (tolerances_wrong (wide n) ≡ false)
  unfolding wide judging
  others = (refl, refl, refl, refl, refl)

  pub wide_judged : refusal (wide n) (shortest (wide n)) ≡ choose (ltb MAX_VARS n) (some 2) none
  unfolding refusal earliest choose
  wide_judged = rw (agree, large, others.0, others.1, others.2, codes, bounds, numbers, others.3, others.4, shortest_enough (wide n)) refl
