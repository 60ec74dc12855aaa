-- AN ACCEPTED CALL, one that the table of refusals passes, is shaped: what every theorem about accepted calls rests on.
use Rattle.std.specs.Prelude.{ℕ, zero, suc, ◌+◌, ◌-◌, ◌≤◌, ◌<◌, ◌≡◌, Bool, true, false, not, ◌||◌, List, [], ◌∷◌, T, eqb}
use native.Mathlib.Omega.{arith}
use Rattle.std.proofs.Math.Path.{refl, sym, subst}
use Rattle.std.proofs.Common.{◌∙◌}
use Rattle.std.proofs.Math.Option.{none}
use Rattle.std.proofs.Math.Dec.{eqb→eq, nltb→le, nleb→lt}
use Rattle.std.proofs.Math.ListN.{length, get_or}
use Rattle.floats.specs.Num.{choose}
use Rattle.definition.specs.Model.{Model, from, upto, nnz, op_of}
use Rattle.definition.specs.Tests.{nor, last_or}
use Rattle.definition.specs.Refusal.{Lent, some_below, lengths_disagree, start_falls, starts_wrong, index_large, index_falls, row_unordered}
use Rattle.definition.specs.Refusal.{MAX_ROW_TERMS, indices_wrong, row_long, rows_long, cmp_wrong, domain_wrong, codes_wrong, too_large}
use Rattle.definition.specs.Refusal.{bounds_wrong, numbers_wrong, rhses_wrong, tolerances_wrong, too_short, table, earliest, refusal}

-- what an accepted call has, as `accepted_shaped` proves: lengths agree, each row's terms lie in the lists of terms, from `from` up to `upto`, variables are numbered, and rise within a row; codes
pub record Shaped (M : Model) : Type 0 where
  pub uppers : length M.upper ≡ length M.lower
  pub domains : length M.domain ≡ length M.lower
  pub ops : length M.cmp ≡ length M.rhs
  pub coeffs : length M.coeff ≡ length M.index
  pub starts : (r : ℕ) → r < length M.rhs → from M r ≤ upto M r
  pub ends : (r : ℕ) → r < length M.rhs → upto M r ≤ length M.index
  pub index : (k : ℕ) → k < length M.index → get_or M.index k 0 < length M.lower
  pub rising : (r k : ℕ) → r < length M.rhs → from M r ≤ k → suc k < upto M r → get_or M.index k 0 < get_or M.index (suc k) 0
  pub op : (r : ℕ) → r < length M.rhs → op_of M r ≤ 2

-- a test that no number below n passes
none_below : (p : ℕ → Bool) (n : ℕ) → T (not (some_below p n)) → (k : ℕ) → k < n → T (not (p k))
unfolding some_below
none_below p zero t k h = absurd (omega arith)
none_below p (suc n) t k h = let q = nor (some_below p n) (p n) t in last_or {Q = λ k. T (not (p k))} n q.1 (none_below p n q.0) k h

-- ---- THE TABLE PASSES A CALL only where each of its rows does
-- whether the row of this number applies; no where the table has none
unfoldable applies : ℕ → List (ℕ × Bool) → Bool
applies n [] = false
applies n (c ∷ cs) =
    let later = applies n cs in
    choose (eqb n c.0) c.1 later

none_applies : (n : ℕ) (cs : List (ℕ × Bool)) → earliest cs ≡ none → applies n cs ≡ false
unfolding earliest applies choose
none_applies n [] e = refl
none_applies n ((k, true) ∷ cs) e = absurd (let z : ◌≡◌ {A = ℕ} 0 1 = cc in omega arith)
none_applies n ((k, false) ∷ cs) e = by (eqb n k) (none_applies n cs e)
  where
    by : (b : Bool) → applies n cs ≡ false → choose b false (applies n cs) ≡ false
    by true h = refl
    by false h = h

pub record Accepted (M : Model) (L : Lent) : Type 0 where
  pub lengths : lengths_disagree M ≡ false
  pub sizes : too_large M ≡ false
  pub starts : starts_wrong M ≡ false
  pub indices : indices_wrong M ≡ false
  pub long : rows_long M ≡ false
  pub codes : codes_wrong M ≡ false
  pub bounds : bounds_wrong M ≡ false
  pub numbers : numbers_wrong M ≡ false
  pub rhses : rhses_wrong M ≡ false
  pub tolerances : tolerances_wrong M ≡ false
  pub room : too_short M L ≡ false

pub accepted : (M : Model) (L : Lent) → refusal M L ≡ none → Accepted M L
unfolding refusal applies choose
accepted M L e =
    let row : (n : ℕ) → applies n (table M L) ≡ false = λ n. none_applies n (table M L) e in
    record {
      lengths = row 1;
      sizes = row 2;
      starts = row 3;
      indices = row 4;
      long = row 18;
      codes = row 5;
      bounds = row 6;
      numbers = row 7;
      rhses = row 8;
      tolerances = row 9;
      room = row 10;
    }

passes : {b : Bool} → b ≡ false → T (not b)
passes e = subst (λ (b : Bool). T (not b)) (sym e) tt

not_not : (b : Bool) → T (not (not b)) → T b
not_not true t = t
not_not false t = t

-- six equations, none of which fails
all_six : (a b c d e f : Bool) → T (not (not a || not b || not c || not d || not e || not f)) → T a × T b × T c × T d × T e × T f
all_six a b c d e f t =
    let p = nor (not a || not b || not c || not d || not e) (not f) t in
    let q = nor (not a || not b || not c || not d) (not e) p.0 in
    let r = nor (not a || not b || not c) (not d) q.0 in
    let u = nor (not a || not b) (not c) r.0 in
    let v = nor (not a) (not b) u.0 in
    (not_not a v.0, not_not b v.1, not_not c u.1, not_not d r.1, not_not e q.1, not_not f p.1)

module _ (M : Model) where
  abbrev n : ℕ
  n = length M.lower

  -- refusal 1
  record Lengths : Type 0 where
    obj : length M.obj ≡ n
    upper : length M.upper ≡ n
    domain : length M.domain ≡ n
    cmp : length M.cmp ≡ length M.rhs
    coeff : length M.coeff ≡ length M.index

  lengths : T (not (lengths_disagree M)) → Lengths
  unfolding lengths_disagree
  lengths t =
      let v = length M.obj in
      let r = length M.rhs in
      let q = all_six (eqb (length M.lower) v) (eqb (length M.upper) v) (eqb (length M.domain) v) (eqb (length M.starts) (suc r))
      (eqb (length M.cmp) r) (eqb (length M.coeff) (length M.index)) t in
      let e = eqb→eq (length M.lower) v q.0 in
      record {
        obj = sym e;
        upper = eqb→eq (length M.upper) v q.1 ∙ sym e;
        domain = eqb→eq (length M.domain) v q.2 ∙ sym e;
        cmp = eqb→eq (length M.cmp) r q.4;
        coeff = eqb→eq (length M.coeff) (length M.index) q.5;
      }

  -- refusal 3: the starts rise to the count of terms
  module _ (t : T (not (starts_wrong M))) where
    in_order : (r : ℕ) → r < length M.rhs → from M r ≤ upto M r
    unfolding starts_wrong start_falls
    in_order r h =
        let p = nor (not (eqb (from M 0) 0) || some_below (start_falls M) (length M.rhs)) _ t in
        nltb→le (upto M r) (from M r) (none_below (start_falls M) (length M.rhs) (nor (not (eqb (from M 0) 0)) _ p.0).1 r h)

    last_start : from M (length M.rhs) ≡ length M.index
    unfolding starts_wrong
    last_start = eqb→eq (from M (length M.rhs)) (length M.index)
        (not_not (eqb (from M (length M.rhs)) (length M.index)) (nor (not (eqb (from M 0) 0) || some_below (start_falls M) (length M.rhs)) _ t).1)

    next_start : (r : ℕ) → upto M r ≡ from M (r + 1)
    unfolding upto from
    next_start r = refl

    climb : (d r : ℕ) → r + d ≡ length M.rhs → from M r ≤ length M.index
    climb zero r e = subst (λ (k : ℕ). from M k ≤ length M.index) (same r e) (omega (arith, last_start))
      where
        same : (r : ℕ) → r + 0 ≡ length M.rhs → length M.rhs ≡ r
        same r e = omega arith
    climb (suc d) r e = omega (arith, in_order r (omega arith), next_start r, climb d (r + 1) (omega arith))

    in_list : (r : ℕ) → r < length M.rhs → upto M r ≤ length M.index
    in_list r h = omega (arith, next_start r, climb (length M.rhs - (r + 1)) (r + 1) (omega arith))

  -- refusal 4: indices are variables, and rise within a row
  module _ (t : T (not (indices_wrong M))) where
    numbered : length M.obj ≡ n → (k : ℕ) → k < length M.index → get_or M.index k 0 < n
    unfolding indices_wrong index_large
    numbered e k h = let l = nleb→lt (length M.obj) (get_or M.index k 0)
        (none_below (index_large M) (length M.index) (nor (some_below (index_large M) (length M.index)) _ t).0 k h) in omega arith

    rises : (r k : ℕ) → r < length M.rhs → from M r ≤ k → suc k < upto M r → get_or M.index k 0 < get_or M.index (suc k) 0
    unfolding indices_wrong row_unordered index_falls nnz
    rises r k h a b =
        let j = k - from M r in
        let e : from M r + j ≡ k = omega arith in
        let u = none_below (row_unordered M) (length M.rhs) (nor (some_below (index_large M) (length M.index)) _ t).1 r h in
        let l = nleb→lt (get_or M.index (suc (from M r + j)) 0) (get_or M.index (from M r + j) 0) (none_below (index_falls M r) (upto M r - from M r - 1) u j (omega arith)) in
        subst (λ (i : ℕ). get_or M.index i 0 < get_or M.index (suc i) 0) e l

  -- refusal 18
  short : T (not (rows_long M)) → (r : ℕ) → r < length M.rhs → nnz M r ≤ MAX_ROW_TERMS
  unfolding rows_long row_long
  short t r h = nltb→le MAX_ROW_TERMS (nnz M r) (none_below (row_long M) (length M.rhs) t r h)

  -- refusal 5
  codes : T (not (codes_wrong M)) → (r : ℕ) → r < length M.rhs → op_of M r ≤ 2
  unfolding codes_wrong cmp_wrong
  codes t r h =
      let p = nor (some_below (domain_wrong M) (length M.obj) || some_below (cmp_wrong M) (length M.rhs)) _ t in
      nltb→le 2 (op_of M r) (none_below (cmp_wrong M) (length M.rhs) (nor (some_below (domain_wrong M) (length M.obj)) _ p.0).1 r h)

  -- AN ACCEPTED CALL is shaped
  pub accepted_shaped : (L : Lent) → refusal M L ≡ none → Shaped M
  accepted_shaped L e =
      let a = accepted M L e in
      let l = lengths (passes a.lengths) in
      let starts = passes a.starts in
      let indices = passes a.indices in
      record {
        uppers = l.upper;
        domains = l.domain;
        ops = l.cmp;
        coeffs = l.coeff;
        starts = in_order starts;
        ends = in_list starts;
        index = numbered indices l.obj;
        rising = rises indices;
        op = codes (passes a.codes);
      }

  -- and each of its rows has at most 256 terms
  pub accepted_short : (L : Lent) → refusal M L ≡ none → (r : ℕ) → r < length M.rhs → nnz M r ≤ MAX_ROW_TERMS
  accepted_short L e = short (passes (accepted M L e).long)
