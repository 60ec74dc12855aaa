-- The laws of the table's rows: what each function computes is its definition, and what a row that does not apply tells.
use Rattle.std.specs.Prelude.{ℕ, zero, suc, ◌+◌, ◌-◌, ◌*◌, ◌≤◌, ◌<◌, ◌≡◌, refl, Bool, true, false, not, ◌&&◌, ◌||◌, List, eqb, ltb, leb, length, get_or, take, drop, Float}
use Rattle.std.proofs.Common.{add-one, arith, sym, subst, ◌∙◌, true≢false}
use Rattle.std.proofs.Math.Path.{ap}
use Rattle.std.proofs.Math.Dec.{eqb_refl}
use Rattle.std.proofs.lemmas.List.{get_or-take, get_or-drop, length-drop, length-take-le}
use Rattle.std.specs.Float.{nan, inf, fin}
use Rattle.std.specs.Float.Ieee.{up, down, eq, ne, neg, is_nan, of_bits}
use Rattle.std.specs.Float.Ieee.Bits.{is_true}
use Rattle.std.specs.Float.Ieee.Fits.{and_i}
use borrow.Author.Tests.{ltb-false, leb-false, le-ltb, eqb-true, not-false}
use Rattle.floats.specs.Num.{∞f, -∞f, is_finite}
use Rattle.std.specs.List.{list_any, zip}
use Rattle.tolerances.specs.Tol.{valid_rhs}
use Rattle.definition.specs.Model.{Model, from, upto, nnz, op_of, rhs_of}
use Rattle.definition.specs.Refusal.{some_below, lengths_disagree, too_large, start_falls, starts_wrong, index_large, index_falls, row_unordered}
use Rattle.definition.specs.Refusal.{indices_wrong, row_long, rows_long, domain_wrong, cmp_wrong, codes_wrong, bound_wrong, bounds_wrong, obj_wrong, coeff_wrong, numbers_wrong, rhs_wrong, rhses_wrong}
use Rattle.refuse.specs.Laws.{none_below, none_passes, same_below, any_below, any_pair_below}

-- ---- what the functions compute
-- a value differs from itself at a NaN alone
ne_self : (x : Float) → ne x x ≡ is_nan x
unfolding ne eq is_nan
ne_self nan = refl
ne_self (inf true) = refl
ne_self (inf false) = refl
ne_self (fin true m e) = ap not (is_true (eqb (m * up e * down e) (m * up e * down e) && true) (and_i (eqb (m * up e * down e) (m * up e * down e)) true (eqb_refl (m * up e * down e)) tt))
ne_self (fin false m e) = ap not (is_true (eqb (m * up e * down e) (m * up e * down e) && true) (and_i (eqb (m * up e * down e) (m * up e * down e)) true (eqb_refl (m * up e * down e)) tt))

minus : neg ∞f ≡ -∞f
unfolding neg of_bits
minus = refl

pub bound_is : {a b : Float} (l h : Float) → a ≡ ∞f → b ≡ ∞f → (ne l l || ne h h || eq l a || eq h (neg b)) ≡ (is_nan l || is_nan h || eq l ∞f || eq h -∞f)
bound_is l h ea eb = rw (ne_self l, ne_self h, ea, eb, minus)

module _ (M : Model) {a : Bool} where
  pub starts_are : length M.starts ≡ length M.rhs + 1 → a ≡ some_below (λ r. ltb (get_or M.starts (r + 1) 0) (get_or M.starts r 0)) (length M.starts - 1)
      → (not (eqb (get_or M.starts 0 0) 0) || a || not (eqb (get_or M.starts (length M.rhs) 0) (length M.index))) ≡ starts_wrong M
  unfolding starts_wrong start_falls from upto
  starts_are l e = let n : length M.starts - 1 ≡ length M.rhs = omega (arith, l) in rw (e, n)

  pub indices_are : {b : Bool} → a ≡ list_any (λ i. leb (length M.obj) i) M.index → b ≡ some_below (row_unordered M) (length M.rhs) → (a || b) ≡ indices_wrong M
  unfolding indices_wrong index_large
  indices_are ea eb = rw (ea, eb, any_below (λ (i : ℕ). leb (length M.obj) i) M.index 0)

  pub codes_are : {b : Bool} → length M.domain ≡ length M.obj → length M.cmp ≡ length M.rhs → a ≡ list_any (λ c. ltb 2 c) M.domain
      → b ≡ list_any (λ c. ltb 2 c) M.cmp → (a || b || ltb 2 M.mode) ≡ codes_wrong M
  unfolding codes_wrong domain_wrong cmp_wrong op_of
  codes_are d c ea eb = rw (ea, eb, any_below (λ (i : ℕ). ltb 2 i) M.domain 0, any_below (λ (i : ℕ). ltb 2 i) M.cmp 0, d, c)

  pub bounds_are : length M.lower ≡ length M.obj → length M.upper ≡ length M.obj
      → a ≡ list_any (λ p. is_nan p.0 || is_nan p.1 || eq p.0 ∞f || eq p.1 -∞f) (zip M.lower M.upper) → a ≡ bounds_wrong M
  unfolding bounds_wrong bound_wrong
  bounds_are l u e = e ∙ any_pair_below _ M.lower M.upper nan nan (u ∙ sym l) ∙ ap (some_below _) l

  pub numbers_are : {b : Bool} → length M.coeff ≡ length M.index → a ≡ list_any (λ x. not (is_finite x)) M.obj → b ≡ list_any (λ x. not (is_finite x)) M.coeff
      → (a || b) ≡ numbers_wrong M
  unfolding numbers_wrong obj_wrong coeff_wrong
  numbers_are c ea eb = rw (ea, eb, any_below (λ (x : Float). not (is_finite x)) M.obj nan, any_below (λ (x : Float). not (is_finite x)) M.coeff nan, c)

  pub rhses_are : length M.cmp ≡ length M.rhs → a ≡ list_any (λ p. not (valid_rhs p.0 p.1)) (zip M.cmp M.rhs) → a ≡ rhses_wrong M
  unfolding rhses_wrong rhs_wrong op_of rhs_of
  rhses_are c e = e ∙ any_pair_below _ M.cmp M.rhs 0 nan (sym c) ∙ ap (some_below _) c

-- ---- a row that does not apply
pub neither : (a b : Bool) → (a || b) ≡ false → (a ≡ false) × (b ≡ false)
neither true b e = absurd (true≢false e)
neither false b e = (refl, e)

-- 1: lengths agree
pub record Agree (M : Model) : Type 0 where
  pub lower : length M.lower ≡ length M.obj
  pub upper : length M.upper ≡ length M.obj
  pub domain : length M.domain ≡ length M.obj
  pub starts : length M.starts ≡ length M.rhs + 1
  pub cmp : length M.cmp ≡ length M.rhs
  pub coeff : length M.coeff ≡ length M.index

same : (m n : ℕ) → not (eqb m n) ≡ false → m ≡ n
same m n e = eqb-true m n (not-false (eqb m n) e)

pub lengths_agree : (M : Model) → lengths_disagree M ≡ false → Agree M
unfolding lengths_disagree
lengths_agree M h =
    let v = length M.obj in
    let r = length M.rhs in
    let p = neither _ (not (eqb (length M.coeff) (length M.index))) h in
    let q = neither _ (not (eqb (length M.cmp) r)) p.0 in
    let s = neither _ (not (eqb (length M.starts) (suc r))) q.0 in
    let t = neither _ (not (eqb (length M.domain) v)) s.0 in
    let u = neither (not (eqb (length M.lower) v)) (not (eqb (length M.upper) v)) t.0 in
    record {
      lower = same _ _ u.0;
      upper = same _ _ u.1;
      domain = same _ _ t.1;
      starts = same _ _ s.1 ∙ sym (add-one r);
      cmp = same _ _ q.1;
      coeff = same _ _ p.1;
    }

-- 2: no more than the maxima
pub record WithinMaxima (M : Model) : Type 0 where
  pub vars : length M.obj ≤ 4096
  pub rows : length M.rhs ≤ 8192
  pub terms : length M.index ≤ 65536

pub sizes_small : (M : Model) → too_large M ≡ false → WithinMaxima M
unfolding too_large
sizes_small M h =
    let p = neither _ (ltb 65536 (length M.index)) h in
    let q = neither (ltb 4096 (length M.obj)) (ltb 8192 (length M.rhs)) p.0 in
    record { vars = ltb-false _ _ q.0; rows = ltb-false _ _ q.1; terms = ltb-false _ _ p.1 }

-- 3: the starts rise to the count of terms, so that each row's terms are in the list
pub record Span (starts index : List ℕ) (r : ℕ) : Type 0 where
  pub rise : get_or starts r 0 ≤ get_or starts (r + 1) 0
  pub last : get_or starts (r + 1) 0 ≤ length index

module _ (M : Model) (h : starts_wrong M ≡ false) where
  parts : (some_below (start_falls M) (length M.rhs) ≡ false) × (not (eqb (get_or M.starts (length M.rhs) 0) (length M.index)) ≡ false)
  unfolding starts_wrong from
  parts =
      let falls = some_below (start_falls M) (length M.rhs) in
      let p = neither (not (eqb (get_or M.starts 0 0) 0) || falls) (not (eqb (get_or M.starts (length M.rhs) 0) (length M.index))) h in
      ((neither (not (eqb (get_or M.starts 0 0) 0)) falls p.0).1, p.1)

  rise : (r : ℕ) → r < length M.rhs → get_or M.starts r 0 ≤ get_or M.starts (r + 1) 0
  unfolding start_falls from upto
  rise r l = ltb-false _ _ (none_below (start_falls M) (length M.rhs) r parts.0 l)

  last : get_or M.starts (length M.rhs) 0 ≡ length M.index
  last = same _ _ parts.1

  climb : (d r : ℕ) → r + d ≡ length M.rhs → get_or M.starts r 0 ≤ length M.index
  climb zero r e = let q : length M.rhs ≡ r = omega arith in subst (λ (k : ℕ). get_or M.starts k 0 ≤ length M.index) q (omega (arith, last))
  climb (suc d) r e = omega (arith, rise r (omega arith), climb d (r + 1) (omega arith))

  pub span : (r : ℕ) → r < length M.rhs → Span M.starts M.index r
  span r l = record { rise = rise r l; last = climb (length M.rhs - (r + 1)) (r + 1) (omega arith) }

-- a row's indices alone: the part of the list that is the row's
abbrev pub part : List ℕ → ℕ → ℕ → List ℕ
part index from upto = take (upto - from) (drop from index)

module _ (M : Model) (r : ℕ) (s : Span M.starts M.index r) where
  abbrev row : List ℕ
  row = part M.index (get_or M.starts r 0) (get_or M.starts (r + 1) 0)

  pub unordered_is : {z : Bool} → z ≡ some_below (λ k. leb (get_or row (k + 1) 0) (get_or row k 0)) (length row - 1) → z ≡ row_unordered M r
  unfolding row_unordered index_falls nnz from upto
  unordered_is e =
      let f = get_or M.starts r 0 in
      let n = get_or M.starts (r + 1) 0 - f in
      let long : length row ≡ n = length-take-le n (drop f M.index) (omega (arith, length-drop f M.index, s.rise, s.last)) in
      let at : (k : ℕ) → k < n → get_or row k 0 ≡ get_or M.index (f + k) 0 = λ k l. get_or-take n (drop f M.index) k 0 l ∙ get_or-drop f M.index k 0 in
      e ∙ ap (λ (j : ℕ). some_below (λ k. leb (get_or row (k + 1) 0) (get_or row k 0)) (j - 1)) long
      ∙ same_below _ _ (n - 1) (λ k l. let up : f + (k + 1) ≡ suc (f + k) = omega arith in rw (at (k + 1) (omega arith), at k (omega arith), up) refl)

-- 4: indices that are variables' and rise within a row are as many as there are variables, or fewer
module _ (M : Model) (h : starts_wrong M ≡ false) (i : indices_wrong M ≡ false) (r : ℕ) (l : r < length M.rhs) where
  ordered : some_below (index_falls M r) (nnz M r - 1) ≡ false
  unfolding indices_wrong row_unordered
  ordered = none_below (row_unordered M) (length M.rhs) r (neither (some_below (index_large M) (length M.index)) _ i).1 l

  place_below : (k : ℕ) → k < nnz M r → k ≤ get_or M.index (from M r + k) 0
  unfolding index_falls
  place_below zero b = omega arith
  place_below (suc k) b =
      let up : get_or M.index (from M r + k) 0 < get_or M.index (suc (from M r + k)) 0 = leb-false _ _ (none_below (index_falls M r) (nnz M r - 1) k ordered (omega arith)) in
      let next : suc (from M r + k) ≡ from M r + suc k = omega arith in
      subst (λ (j : ℕ). suc k ≤ get_or M.index j 0) next (omega (arith, up, place_below k (omega arith)))

  -- the last of them is a variable's
  from_last : (n : ℕ) → nnz M r ≡ n → n ≤ length M.obj
  unfolding indices_wrong index_large nnz from upto
  from_last zero e = omega arith
  from_last (suc k) e =
      let s = span M h r l in
      let b : get_or M.index (from M r + k) 0 < length M.obj = leb-false _ _ (none_below (index_large M) (length M.index) (from M r + k)
      (neither (some_below (index_large M) (length M.index)) _ i).0 (omega (arith, e, s.rise, s.last))) in
      omega (arith, b, place_below k (omega (arith, e)))

  pub few_terms : nnz M r ≤ length M.obj
  few_terms = from_last (nnz M r) refl

-- so where there are at most 256 variables no row is too long
pub rows_short : (M : Model) → starts_wrong M ≡ false → indices_wrong M ≡ false → length M.obj ≤ 256 → rows_long M ≡ false
unfolding rows_long row_long
rows_short M h i v = none_passes (row_long M) (length M.rhs) (λ r l. le-ltb 256 (nnz M r) (omega (arith, v, few_terms M h i r l)))
