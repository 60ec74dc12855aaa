-- An implied bound that leaves its variable as it is does so after it is relaxed, too: what it is relaxed by is not negative, or no number.
use Rattle.std.specs.Prelude.{◌≡◌, ℕ, Bool, true, false, ◌&&◌, ◌||◌, T, is_nan, refl, Float, Ok}
use Rattle.std.proofs.Common.{arith, sym, ap, ◌∙◌, subst}
use Rattle.std.specs.Float.{binary64, nan, inf, fin}
use Rattle.std.specs.Float.Ieee.{lt, le, fits, of_bits}
use Rattle.std.specs.Float.Ieee.Bits.{is_true}
use Rattle.floats.specs.Num.{choose, ◌⊕◌, ◌⊖◌, ◌⊗◌, ◌⊘◌, 0f, 1f, ½f, abs, maxf, floor, ceil}
use Rattle.floats.specs.Points.{Held}
use Rattle.floats.proofs.Points.{fits_add, fits_sub, fits_mul, fits_div}
use Rattle.floats.specs.Order.{le_real}
use Rattle.floats.specs.Points.{◌≼◌}
use Rattle.floats.proofs.Compare.{lt_le, le_trans}
use Rattle.floats.proofs.Meaning.{maxf_first, maxf_second}
use Rattle.floats.specs.Relaxed.{NotNeg}
use Rattle.floats.proofs.Relaxed.{notneg_of, notneg_abs, notneg_max, notneg_add, notneg_mul, notneg_div, notneg_less_half, floor_stays, ceil_stays, upper_stays, lower_stays}
use Rattle.tolerances.specs.Tol.{ROUNDOFF_FLOOR, row_tolerance, slack_margin, slack_tol}
use Rattle.definition.specs.Params.{params}
use Rattle.definition.specs.Model.{Model, Row, nnz}
use Rattle.definition.specs.Work.{budget}
use Rattle.formulas.specs.declared.Side.{Side}
use Rattle.formulas.specs.Moves.{not_tighter, upper_int_move, upper_real_move, lower_int_move, lower_real_move}
use Rattle.formulas.specs.Implied.{relax_of}

-- ---- what a bound is relaxed by
pub record Relaxes (feas mag slack : Float) : Type 0 where
  pub relaxed : (M : Model) (r : ℕ) (row : Row) (side : Side) (c rest a : Float) → side.abs ≡ mag → side.slack ≡ slack → M.feas ≡ feas → Held a → NotNeg (relax_of M r row side c rest a)

pub relax_held : (M : Model) (r : ℕ) (row : Row) (side : Side) (c rest a : Float) → Held (relax_of M r row side c rest a)
unfolding relax_of
relax_held M r row side c rest a = fits_div _ _

-- the test for it
unfoldable pub not_negative : Float → Float → Float → Bool
not_negative feas mag slack = le 0f feas && le 0f mag && le 0f slack

-- ---- a variable stays as it is, by its domain: an integer one by its emitted bound, another by its working bound
unfoldable pub upper_still : Bool → Float → Float → Float → Bool
upper_still int q ehi whi = choose int (le (ehi ⊖ ½f) (floor q)) (le whi q)

unfoldable pub lower_still : Bool → Float → Float → Float → Bool
lower_still int q elo wlo = choose int (le (ceil q) (elo ⊕ ½f)) (le q wlo)

pub record UpperStays (int : Bool) (q ehi whi : Float) : Type 0 where
  pub leaves : (t wlo tol : Float) → Held t → NotNeg t → choose int (upper_int_move (floor (q ⊕ t)) ehi wlo) (upper_real_move (q ⊕ t) whi wlo tol) ≡ Ok false

pub record LowerStays (int : Bool) (q elo wlo : Float) : Type 0 where
  pub leaves : (t whi tol : Float) → Held t → NotNeg t → choose int (lower_int_move (ceil (q ⊖ t)) elo whi) (lower_real_move (q ⊖ t) wlo whi tol) ≡ Ok false

pub skips : {A : Type 0} {b : Bool} (x y : A) → b ≡ false → choose b x y ≡ y
unfolding choose
skips x y e = rw e

pub takes : {A : Type 0} {b : Bool} (x y : A) → b ≡ true → choose b x y ≡ x
unfolding choose
takes x y e = rw e

-- ---- for the functions' proofs: the tests, by their ways
module _ (feas mag slack : Float) where
  pub negative_first : le 0f feas ≡ false → false ≡ not_negative feas mag slack
  unfolding not_negative
  negative_first e = simp e

  pub negative_second : le 0f feas ≡ true → le 0f mag ≡ false → false ≡ not_negative feas mag slack
  unfolding not_negative
  negative_second e h = simp (e, h)

  pub negative_third : le 0f feas ≡ true → le 0f mag ≡ true → le 0f slack ≡ not_negative feas mag slack
  unfolding not_negative
  negative_third e h = simp (e, h)

-- ---- a float in hand is held, and a test that failed tells nothing
pub held_so : {x : Float} → fits binary64 x ≡ true → Held x
held_so e = record { fits = subst T (sym e) tt }

pub never : {A : Type 0} → ◌≡◌ {A = Bool} false true → A
never t = absurd (let z : ◌≡◌ {A = ℕ} 0 1 = (let y = t in cc) in omega arith)

-- ---- what a bound is relaxed by is not negative
rough : Held ROUNDOFF_FLOOR
unfolding of_bits fits
rough = record { fits = tt }

rough_notneg : NotNeg ROUNDOFF_FLOOR
unfolding of_bits lt
rough_notneg = refl

improve : (Held params.improve_rel) × NotNeg params.improve_rel
unfolding of_bits fits lt
improve = (record { fits = tt }, refl)

one : (Held 1f) × NotNeg 1f
unfolding of_bits fits lt
one = (record { fits = tt }, refl)

max_held : (x y : Float) → Held x → Held y → Held (maxf x y)
unfolding maxf choose
max_held x y h k = go (is_nan x || lt x y)
  where
    go : (b : Bool) → Held (choose b y x)
    go true = k
    go false = h

abs_held : (x : Float) → Held x → Held (abs x)
unfolding abs fits
abs_held nan h = h
abs_held (inf s) h = record { fits = tt }
abs_held (fin s m e) h = record { fits = h.fits }

-- the larger of two, the first of which is at or above zero
max_above : (x y : Float) → le 0f x ≡ true → le 0f (maxf x y) ≡ true
max_above x y e = go (lt x y) refl
  where
    s : 0f ≼ x
    s = record { le = subst T (sym e) tt }

    go : (b : Bool) → lt x y ≡ b → le 0f (maxf x y) ≡ true
    go true k = ap (le 0f) (maxf_second x y k) ∙ is_true (le 0f y) (le_trans s (record { le = lt_le x y (subst T (sym k) tt) })).le
    go false k = ap (le 0f) (maxf_first x y (le_real 0f x s.le).1 k) ∙ e

module _ (feas m : Float) (n : ℕ) (hf : Held feas) (pf : le 0f feas ≡ true) where
  budget_notneg : NotNeg (slack_tol feas m n)
  unfolding slack_tol slack_margin row_tolerance
  budget_notneg = notneg_less_half (maxf feas (ROUNDOFF_FLOOR ⊗ m)) _ (max_held _ _ hf (fits_mul _ _)) (fits_mul _ _) (max_above _ _ pf)

  budget_held : Held (slack_tol feas m n)
  unfolding slack_tol
  budget_held = fits_sub _ _

  relaxation_notneg : (mag slack a : Float) → Held mag → Held slack → Held a → le 0f mag ≡ true → le 0f slack ≡ true → NotNeg ((slack_tol feas m n ⊕ ROUNDOFF_FLOOR ⊗ mag ⊕ slack) ⊘ abs a)
  relaxation_notneg mag slack a hm hs ha pm ps =
      notneg_div _ a (fits_add _ _) ha
      (notneg_add _ _ (fits_add _ _) hs (notneg_add _ _ budget_held (fits_mul _ _) budget_notneg (notneg_mul _ _ rough hm rough_notneg (notneg_of mag pm))) (notneg_of slack ps))

pub relaxes_so : {feas mag slack : Float} → Held feas → Held mag → Held slack → le 0f feas ≡ true → le 0f mag ≡ true → le 0f slack ≡ true → Relaxes feas mag slack
unfolding relax_of budget
relaxes_so hf hm hs pf pm ps =
    record {
      relaxed = λ M r row side c rest a em es ef ha.
          relaxation_notneg M.feas _ (nnz M r) (subst Held (sym ef) hf) (ap (le 0f) ef ∙ pf) side.abs side.slack a (subst Held (sym em) hm)
          (subst Held (sym es) hs) ha (ap (le 0f) em ∙ pm) (ap (le 0f) es ∙ ps);
    }

-- ---- the four ways
improve_notneg : (nq : Float) → Held nq → NotNeg (params.improve_rel ⊗ maxf (abs nq) 1f)
improve_notneg nq h = notneg_mul _ _ improve.0 (max_held _ _ (abs_held nq h) one.0) improve.1 (notneg_max _ _ (notneg_abs nq) one.1)

module _ {int : Bool} {q : Float} (hq : Held q) where
  pub upper_int_stays : {ehi whi : Float} → int ≡ true → le (ehi ⊖ ½f) (floor q) ≡ true → UpperStays int q ehi whi
  unfolding upper_int_move
  upper_int_stays ei e = record { leaves = λ t wlo tol ht nt. takes _ _ ei ∙ not_tighter _ _ (floor_stays q t _ hq ht nt e) }

  pub upper_real_stays : {ehi whi : Float} → Held whi → int ≡ false → le whi q ≡ true → UpperStays int q ehi whi
  unfolding upper_real_move
  upper_real_stays hb ei e = record { leaves = λ t wlo tol ht nt. skips _ _ ei ∙ not_tighter _ _ (upper_stays q t _ _ hq ht hb (fits_mul _ _) nt (improve_notneg _ (fits_add _ _)) e) }

  pub lower_int_stays : {elo wlo : Float} → int ≡ true → le (ceil q) (elo ⊕ ½f) ≡ true → LowerStays int q elo wlo
  unfolding lower_int_move
  lower_int_stays ei e = record { leaves = λ t whi tol ht nt. takes _ _ ei ∙ not_tighter _ _ (ceil_stays q t _ hq ht nt e) }

  pub lower_real_stays : {elo wlo : Float} → Held wlo → int ≡ false → le q wlo ≡ true → LowerStays int q elo wlo
  unfolding lower_real_move
  lower_real_stays hb ei e = record { leaves = λ t whi tol ht nt. skips _ _ ei ∙ not_tighter _ _ (lower_stays q t _ _ hq ht hb (fits_mul _ _) nt (improve_notneg _ (fits_sub _ _)) e) }
