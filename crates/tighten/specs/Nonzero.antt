-- A rewrite puts in no coefficient that is zero: it is put in only where it is above or below zero.
use Rattle.std.specs.Prelude.{ℕ, ◌+◌, ◌*◌, ◌<◌, ◌≡◌, refl, Bool, true, false, ◌&&◌, eqb, Float}
use Rattle.std.proofs.Common.{arith, sym, eqb-true, ne_eqb, ltb-true}
use Rattle.std.specs.Float.{nan, inf, fin}
use Rattle.std.specs.Float.Ieee.{up, down, below, level, lt, eq, neg}
use Rattle.floats.specs.Num.{choose, ◌⊕◌, ◌⊖◌, ◌⊗◌, gt, 0f}
use Rattle.tolerances.specs.Tol.{Term}
use Rattle.definition.specs.declared.Activity.{Activity}
use Rattle.definition.specs.Model.{Model, Row}
use Rattle.definition.specs.Work.{Work}
use Rattle.definition.specs.Rewrites.{Form, le_form, ge_form, no_form, Rewrite, keeps, shrink_le, raise_le, vacuous_le, shrink_ge, lower_ge, vacuous_ge, vacuous}
use Rattle.definition.specs.Tighten.{rewrite_of}
use Rattle.view.specs.Lists.{either}
use Rattle.folds.specs.Counting.{true_false}
use Rattle.coeffs.specs.Keeping.{Nonzero, nonzero_keeps, nonzero_coeff, nonzero_bound}

-- ---- numbers that differ
and_no : (a b : Bool) → (a ≡ true → b ≡ false) → (a && b) ≡ false
and_no true b h = h refl
and_no false b h = refl

apart : (s : Bool) (a : ℕ) (t : Bool) (b : ℕ) → (a ≡ b → ⊥) → level s a t b ≡ false
apart s a t b n = rw (ne_eqb a b n) refl

opposite : (a b : ℕ) → 0 < a + b → eqb a b ≡ true → eqb a 0 ≡ false
opposite a b h e = ne_eqb a 0 (λ z. omega (arith, z, h, eqb-true a b e))

below_level : (s : Bool) (a : ℕ) (t : Bool) (b : ℕ) → below s a t b ≡ true → level s a t b ≡ false
below_level false a false b h = apart false a false b (λ e. omega (arith, e, ltb-true a b h))
below_level false a true b h = true_false (sym h)
below_level true a false b h = and_no (eqb a b) (eqb a 0) (opposite a b (ltb-true 0 (a + b) h))
below_level true a true b h = apart true a true b (λ e. omega (arith, e, ltb-true b a h))

above_level : (s : Bool) (a : ℕ) (t : Bool) (b : ℕ) → below t b s a ≡ true → level s a t b ≡ false
above_level false a false b h = apart false a false b (λ e. omega (arith, e, ltb-true b a h))
above_level true a false b h = true_false (sym h)
above_level false a true b h = and_no (eqb a b) (eqb a 0) (opposite a b (let z = ltb-true 0 (b + a) h in omega arith))
above_level true a true b h = apart true a true b (λ e. omega (arith, e, ltb-true a b h))

pub lt_differ : (x y : Float) → lt x y ≡ true → eq x y ≡ false
unfolding lt eq
lt_differ nan y h = refl
lt_differ (inf s) nan h = refl
lt_differ (inf true) (inf true) h = true_false (sym h)
lt_differ (inf true) (inf false) h = refl
lt_differ (inf false) (inf true) h = refl
lt_differ (inf false) (inf false) h = true_false (sym h)
lt_differ (inf s) (fin t n d) h = refl
lt_differ (fin s m e) nan h = refl
lt_differ (fin s m e) (inf t) h = refl
lt_differ (fin s m e) (fin t n d) h = below_level s (m * up e * down d) t (n * up d * down e) h

pub gt_differ : (x y : Float) → lt y x ≡ true → eq x y ≡ false
unfolding lt eq
gt_differ nan y h = refl
gt_differ (inf s) nan h = refl
gt_differ (inf true) (inf true) h = true_false (sym h)
gt_differ (inf true) (inf false) h = refl
gt_differ (inf false) (inf true) h = refl
gt_differ (inf false) (inf false) h = true_false (sym h)
gt_differ (inf s) (fin t n d) h = refl
gt_differ (fin s m e) nan h = refl
gt_differ (fin s m e) (inf t) h = refl
gt_differ (fin s m e) (fin t n d) h = above_level s (m * up e * down d) t (n * up d * down e) h

-- ---- the four rewrites
tested : (p q : Bool) {x : Rewrite} → (q ≡ true → Nonzero x) → Nonzero (choose (p && q) x keeps)
unfolding choose
tested true true k = k refl
tested true false k = nonzero_keeps
tested false q k = nonzero_keeps

module _ (M : Model) (nz : Float) where
  abbrev least : Float
  least = M.params.coeff_min_improve

  module _ (b rest a : Float) where
    shrink_le_lem : Nonzero (shrink_le M nz b rest a)
    unfolding shrink_le
    shrink_le_lem = tested (gt (b ⊖ (rest ⊕ nz)) (least ⊗ a)) (gt (a ⊖ (b ⊖ (rest ⊕ nz))) 0f) (λ e. nonzero_bound (gt_differ (a ⊖ (b ⊖ (rest ⊕ nz))) 0f e))

    raise_le_lem : Nonzero (raise_le M nz b rest a)
    unfolding raise_le
    raise_le_lem = tested (gt (b ⊖ (rest ⊕ nz) ⊖ a) (least ⊗ neg a)) (lt (b ⊖ (rest ⊕ nz)) 0f) (λ e. nonzero_coeff (lt_differ (b ⊖ (rest ⊕ nz)) 0f e))

    shrink_ge_lem : Nonzero (shrink_ge M nz b rest a)
    unfolding shrink_ge
    shrink_ge_lem = tested (gt (rest ⊖ nz ⊖ b) (least ⊗ neg a)) (lt (a ⊕ (rest ⊖ nz ⊖ b)) 0f) (λ e. nonzero_bound (lt_differ (a ⊕ (rest ⊖ nz ⊖ b)) 0f e))

    lower_ge_lem : Nonzero (lower_ge M nz b rest a)
    unfolding lower_ge
    lower_ge_lem = tested (gt (a ⊖ (b ⊖ (rest ⊖ nz))) (least ⊗ a)) (gt (b ⊖ (rest ⊖ nz)) 0f) (λ e. nonzero_coeff (gt_differ (b ⊖ (rest ⊖ nz)) 0f e))

  module _ (row : Row) (act : Activity) (a : Float) where
    vacuous_le_lem : Nonzero (vacuous_le M nz row act a)
    unfolding vacuous_le
    vacuous_le_lem = either Nonzero _ (λ e. shrink_le_lem row.hi _ a) (λ e. raise_le_lem row.hi _ a)

    vacuous_ge_lem : Nonzero (vacuous_ge M nz row act a)
    unfolding vacuous_ge
    vacuous_ge_lem = either Nonzero _ (λ e. shrink_ge_lem row.lo _ a) (λ e. lower_ge_lem row.lo _ a)

    vacuous_nonzero : (f : Form) → Nonzero (vacuous M f nz row act a)
    unfolding vacuous
    vacuous_nonzero le_form = either Nonzero _ (λ e. vacuous_le_lem) (λ e. nonzero_keeps)
    vacuous_nonzero ge_form = either Nonzero _ (λ e. vacuous_ge_lem) (λ e. nonzero_keeps)
    vacuous_nonzero no_form = nonzero_keeps

  pub rewrite_nonzero : (f : Form) (w : Work) (row : Row) (act : Activity) (t : Term) → Nonzero (rewrite_of M f nz w row act t)
  unfolding rewrite_of
  rewrite_nonzero f w row act t = either Nonzero _ (λ e. vacuous_nonzero row act t.coeff f) (λ e. nonzero_keeps)
