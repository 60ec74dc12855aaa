-- The row as written has the invariant: its indices rise.
use Prim.Native.Nat.{ℕ, suc, ◌+◌, ◌<◌}
use native.Mathlib.Omega.{arith}
use Rattle.std.specs.Prelude.{◌≡◌, refl, Bool, true, false, List, [], ◌∷◌, ◌++◌, eqb, length, get_or, Float}
use Rattle.std.proofs.Math.Option.{none}
use Rattle.tolerances.specs.Tol.{Term, zip_terms}
use Rattle.definition.specs.Model.{Model, from, nnz, written, as_written}
use Rattle.definition.specs.Work.{has_term}
use Rattle.space.specs.declared.Context.{Context}
use Rattle.view.specs.Call.{Call}
use Rattle.view.specs.Inv.{Distinct, distinct[], distinct∷, none_in, RowInv}
use Rattle.folds.specs.Apart.{nnz_is}
use Rattle.folds.specs.Written.{eqb_differ, span_at, indices}
use Rattle.folds.specs.Counting.{count_by, count_append, is_var, count_has, distinct_count, count_distinct, count_all_in}

abbrev Rising : List ℕ → Type 0
Rising l = (k : ℕ) → suc k < length l → get_or l k 0 < get_or l (suc k) 0

tail_rises : (v : ℕ) (vs : List ℕ) → Rising (v ∷ vs) → Rising vs
tail_rises v vs h k l = h (suc k) (omega (arith, l))

-- what lies below the first is not there
below_first : (u : ℕ) (vs : List ℕ) (cs : List Float) → Rising vs → (0 < length vs → u < get_or vs 0 0) → has_term u (zip_terms vs cs) ≡ false
unfolding has_term zip_terms
below_first u [] cs h l = refl
below_first u (v ∷ vs) [] h l = refl
below_first u (v ∷ vs) (a ∷ cs) h l =
    let b = l (omega arith) in
    let n : eqb v u ≡ false = eqb_differ v u (λ e. omega (arith, e, b)) in
    rw n (below_first u vs cs (tail_rises v vs h) (λ q. let z = h 0 (omega (arith, q)) in omega (arith, z, b)))

distinct_zip : (vs : List ℕ) (cs : List Float) → Rising vs → Distinct (zip_terms vs cs)
unfolding zip_terms
distinct_zip [] cs h = distinct[]
distinct_zip (v ∷ vs) [] h = distinct[]
distinct_zip (v ∷ vs) (a ∷ cs) h = distinct∷ (below_first v vs cs (tail_rises v vs h) (λ q. h 0 (omega (arith, q)))) (distinct_zip vs cs (tail_rises v vs h))

none_count : (g : Term → Bool) (l : List Term) → count_by g (l ++ []) ≡ count_by g l
unfolding count_by
none_count g l = let z = count_append g l [] in omega (arith, z)

module _ {M : Model} {s : Context} {r : ℕ} (c : Call M s) (p : r < length M.rhs) where
  written_distinct : Distinct (written M r)
  unfolding written
  written_distinct =
      distinct_zip _ _
      (λ k l.
      let q : suc k < nnz M r = omega (arith, l, indices c p) in
      let a = span_at M.index (from M r) (nnz M r) k 0 (omega (arith, q)) in
      let b = span_at M.index (from M r) (nnz M r) (suc k) 0 q in
      let e : from M r + suc k ≡ suc (from M r + k) = omega arith in
      let d = c.rising r (from M r + k) p (omega arith) (omega (arith, q, nnz_is M r)) in
      rw (a, b, e) d)

  pub as_written_inv : RowInv M r (as_written M r)
  unfolding as_written
  as_written_inv =
      record {
        distinct = count_distinct (written M r ++ []) (λ v. let z = none_count (is_var v) (written M r) in omega (arith, z, distinct_count written_distinct v));
        all_in = count_all_in (written M r ++ []) (λ v h. count_has v (written M r) (let z = none_count (is_var v) (written M r) in omega (arith, z, h)));
        binaries = none_in;
      }

pub as_written_alive : (M : Model) (r : ℕ) → (as_written M r).alive ≡ true
unfolding as_written
as_written_alive M r = refl

pub as_written_room : (M : Model) (r : ℕ) → length (as_written M r).terms + length (as_written M r).folded ≡ length (written M r)
unfolding as_written
as_written_room M r = omega arith

pub as_written_terms : (M : Model) (r : ℕ) → (as_written M r).terms ≡ written M r
unfolding as_written
as_written_terms M r = refl

pub as_written_unbound : (M : Model) (r : ℕ) → (as_written M r).binding ≡ none
unfolding as_written
as_written_unbound M r = refl
