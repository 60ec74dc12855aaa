-- What each branch of the code answers is the definition's test.
use Rattle.std.specs.Prelude.{ℕ, suc, ◌+◌, ◌-◌, ◌≤◌, ◌≡◌, Bool, true, false, ◌&&◌, ◌||◌, List, T, eqb, pos, length, Float}
use Rattle.std.proofs.lemmas.Bool.{false≢true}
use Rattle.std.proofs.Common.{arith, ◌∙◌, lit≤, ne_eqb, le-ltb}
use Rattle.std.proofs.Math.Path.{refl, sym, ap, subst}
use Rattle.std.proofs.Math.Bool.{not}
use Rattle.std.proofs.Math.Dec.{ltb}
use Rattle.std.proofs.Math.ListN.{get_or, get_or-eq_default}
use Rattle.std.specs.Float.{nan, binary64}
use Rattle.std.specs.Float.Ieee.{fits, le, of_bits, of_int, round}
use Rattle.floats.specs.Num.{0f, abs}
use Rattle.floats.specs.Points.{is_whole, Is}
use Rattle.floats.proofs.Points.{of_is}
use Rattle.tolerances.specs.Tol.{at}
use Rattle.points_kept.specs.Statements.{HUNDREDTH}
use Rattle.whole_numbers.specs.Fault.{whole_within, tolerable, domain_off, bounds_off, number_off, row_long, tolerance_off, mode_off, objective_off}
use Rattle.whole_numbers.specs.Floats.{within_is, beyond, beyond_at}

-- ---- domains
pub domain_by : (ds : List ℕ) (v : ℕ) {d : ℕ} → d ≡ get_or ds v 0 → (d ≡ 0 → ⊥) → not (eqb d 2) ≡ domain_off ds v
unfolding domain_off
domain_by ds v {d} e h = ap (λ (b : Bool). not (b || eqb d 2)) (sym (ne_eqb d 0 h)) ∙ ap (λ (k : ℕ). not (eqb k 0 || eqb k 2)) e

pub domain_integer : (ds : List ℕ) (v : ℕ) {d : ℕ} → d ≡ get_or ds v 0 → d ≡ 0 → false ≡ domain_off ds v
unfolding domain_off
domain_integer ds v e z = ap (λ (k : ℕ). not (eqb k 0 || eqb k 2)) (sym z ∙ e)

pub domain_past : (ds : List ℕ) (v : ℕ) → length ds ≤ v → false ≡ domain_off ds v
domain_past ds v h = domain_integer ds v {d = 0} (sym (get_or-eq_default ds 0 h)) refl

-- ---- floats
pub size_next : (x limit : Float) → is_whole x ≡ true → le (abs x) limit ≡ is_whole x && le (abs x) limit
size_next x limit e = sym (ap (λ (b : Bool). b && le (abs x) limit) e)

pub not_whole : (x limit : Float) → is_whole x ≡ false → false ≡ is_whole x && le (abs x) limit
not_whole x limit e = sym (ap (λ (b : Bool). b && le (abs x) limit) e)

-- the limits as the code has them
abbrev pub BOUND : Float
BOUND = of_bits binary64 0x4130000000000000

abbrev pub COEFF : Float
COEFF = of_bits binary64 0x40e0000000000000

abbrev pub RHS : Float
RHS = of_bits binary64 0x4270000000000000

pub bound_is : Is BOUND (pos 1048576)
bound_is = let e : of_int binary64 (pos 1048576) ≡ BOUND = unfold of_bits of_int round in refl in subst (λ (x : Float). Is x (pos 1048576)) e (of_is (pos 1048576) (lit≤ tt))

pub coeff_is : Is COEFF (pos 32768)
coeff_is = let e : of_int binary64 (pos 32768) ≡ COEFF = unfold of_bits of_int round in refl in subst (λ (x : Float). Is x (pos 32768)) e (of_is (pos 32768) (lit≤ tt))

pub rhs_is : Is RHS (pos 1099511627776)
rhs_is = let e : of_int binary64 (pos 1099511627776) ≡ RHS = unfold of_bits of_int round in refl in subst (λ (x : Float). Is x (pos 1099511627776)) e (of_is (pos 1099511627776) (lit≤ tt))

bound_test : (x : Float) → is_whole x && le (abs x) BOUND ≡ whole_within 1048576 x
bound_test x = within_is x BOUND 1048576 bound_is

-- ---- a number against a limit
pub number_by : (limit : Float) (xs : List Float) (i : ℕ) {x : Float} {b : Bool} → x ≡ at xs i → b ≡ is_whole x && le (abs x) limit → not b ≡ beyond limit xs i
unfolding beyond
number_by limit xs i a e = ap not (e ∙ ap (λ (z : Float). is_whole z && le (abs z) limit) a)

pub number_past : (limit : Float) (xs : List Float) (i : ℕ) → length xs ≤ i → true ≡ beyond limit xs i
unfolding beyond is_whole
number_past limit xs i h = sym (ap (λ (z : Float). not (is_whole z && le (abs z) limit)) (get_or-eq_default xs nan h))

lower_alone : (w u : Bool) → not w ≡ true → not w ≡ not (w && u)
lower_alone true u e = absurd (false≢true e)
lower_alone false u e = refl

upper_then : (w u : Bool) → not w ≡ false → not u ≡ not (w && u)
upper_then true u e = refl
upper_then false u e = absurd (false≢true (sym e))

module _ (ls us : List Float) (v : ℕ) {b : Bool} (e : b ≡ beyond BOUND ls v) where
  pub lower_off : b ≡ true → b ≡ bounds_off ls us v
  unfolding bounds_off number_off
  lower_off t =
      let q = e ∙ beyond_at BOUND 1048576 bound_is ls v in
      q ∙ lower_alone (whole_within 1048576 (at ls v)) (whole_within 1048576 (at us v)) (sym q ∙ t)

  pub upper_off : b ≡ false → {c : Bool} → c ≡ beyond BOUND us v → c ≡ bounds_off ls us v
  unfolding bounds_off number_off
  upper_off t f =
      let q = e ∙ beyond_at BOUND 1048576 bound_is ls v in
      f ∙ beyond_at BOUND 1048576 bound_is us v ∙ upper_then (whole_within 1048576 (at ls v)) (whole_within 1048576 (at us v)) (sym q ∙ t)

-- ---- row lengths
module _ (ss : List ℕ) (r : ℕ) where
  pub row_past : length ss ≤ r → false ≡ row_long ss r
  unfolding row_long
  row_past h = let e = get_or-eq_default ss 0 {n = r + 1} (omega arith) in sym (le-ltb 256 (get_or ss (r + 1) 0 - get_or ss r 0) (omega (arith, e)))

  pub row_last : length ss ≤ r + 1 → false ≡ row_long ss r
  unfolding row_long
  row_last h = let e = get_or-eq_default ss 0 {n = r + 1} h in sym (le-ltb 256 (get_or ss (r + 1) 0 - get_or ss r 0) (omega (arith, e)))

  pub row_length : {u n : ℕ} → u ≡ get_or ss (r + 1) 0 → n ≡ u - get_or ss r 0 → ltb 256 n ≡ row_long ss r
  unfolding row_long
  row_length e f = ap (ltb 256) (f ∙ ap (λ (n : ℕ). n - get_or ss r 0) e)

-- ---- tolerances and the mode
is_true : (b : Bool) → T b → b ≡ true
is_true true t = refl
is_true false t = elim t [ ]

hundredth : of_bits binary64 0x3f847ae147ae147b ≡ HUNDREDTH
hundredth = unfold of_bits round in refl

pub tolerance_next : (x : Float) → T (fits binary64 x) → le (of_bits binary64 0) x ≡ true → le x (of_bits binary64 0x3f847ae147ae147b) ≡ tolerable x
unfolding tolerable
tolerance_next x f e = ap (le x) hundredth ∙ sym (ap (λ (b : Bool). b && (le 0f x && le x HUNDREDTH)) (is_true (fits binary64 x) f) ∙ ap (λ (b : Bool). b && le x HUNDREDTH) e)

pub below_zero : (x : Float) → T (fits binary64 x) → le (of_bits binary64 0) x ≡ false → false ≡ tolerable x
unfolding tolerable
below_zero x f e = sym (ap (λ (b : Bool). b && (le 0f x && le x HUNDREDTH)) (is_true (fits binary64 x) f) ∙ ap (λ (b : Bool). b && le x HUNDREDTH) e)

module _ (feas int_tol : Float) {i : ℕ} {b : Bool} where
  pub feasibility : i ≡ 0 → b ≡ tolerable feas → not b ≡ tolerance_off feas int_tol i
  unfolding tolerance_off
  feasibility z e = ap not e ∙ sym (ap (tolerance_off feas int_tol) z)

  pub integrality : (i ≡ 0 → ⊥) → b ≡ tolerable int_tol → not b ≡ tolerance_off feas int_tol i
  unfolding tolerance_off
  integrality h e = let z : i ≡ suc (i - 1) = omega (arith, h) in ap not e ∙ sym (ap (tolerance_off feas int_tol) z)

pub mode_one : (m : ℕ) → m ≡ 1 → false ≡ mode_off m 0
unfolding mode_off
mode_one m e = sym (ap (λ (k : ℕ). not (eqb k 1 || eqb k 2)) e)

pub mode_other : (m : ℕ) → (m ≡ 1 → ⊥) → not (eqb m 2) ≡ mode_off m 0
unfolding mode_off
mode_other m h = sym (ap (λ (b : Bool). not (b || eqb m 2)) (ne_eqb m 1 h))

-- ---- an objective
pub objective_by : (obj : List Float) (v : ℕ) {c : Float} {b : Bool} → c ≡ at obj v → b ≡ is_whole c → not b ≡ objective_off obj v
unfolding objective_off
objective_by obj v a e = ap not (e ∙ ap is_whole a)

pub objective_past : (obj : List Float) (v : ℕ) → length obj ≤ v → true ≡ objective_off obj v
unfolding objective_off is_whole
objective_past obj v h = sym (ap (λ (z : Float). not (is_whole z)) (get_or-eq_default obj nan h))
