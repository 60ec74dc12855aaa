-- A float that passed a test of the reductions is a number, and one above or below zero is no zero.
use Rattle.std.specs.Prelude.{◌≡◌, refl, Bool, true, false, not, ◌&&◌, ◌||◌, ℕ, ◌+◌, ◌<◌, T, eqb, Float}
use Rattle.std.specs.Bool.{beq}
use Rattle.std.proofs.Common.{arith, ltb→lt, eqb→eq}
use Rattle.std.specs.Float.{nan, inf, fin}
use Rattle.std.specs.Float.Ieee.{is_nan, lt, eq, below, level}
use Rattle.floats.specs.Num.{choose, gt, 0f, is_finite, maxf, minf}
use Rattle.definition.specs.Choices.{true≢false}
use Rattle.rows_kept.specs.Numbers.{Coefficient}

pub lt_left : (x y : Float) → lt x y ≡ true → is_nan x ≡ false
unfolding lt is_nan
lt_left nan y t = true≢false t refl
lt_left (inf s) y t = refl
lt_left (fin s m e) y t = refl

pub lt_right : (x y : Float) → lt x y ≡ true → is_nan y ≡ false
unfolding lt is_nan
lt_right nan nan t = true≢false t refl
lt_right nan (inf s) t = refl
lt_right nan (fin s m e) t = refl
lt_right (inf s) nan t = true≢false t refl
lt_right (inf s) (inf u) t = refl
lt_right (inf s) (fin u n d) t = refl
lt_right (fin s m e) nan t = true≢false t refl
lt_right (fin s m e) (inf u) t = refl
lt_right (fin s m e) (fin u n d) t = refl

pub finite_number : (x : Float) → is_finite x ≡ true → is_nan x ≡ false
unfolding is_finite is_nan
finite_number nan t = true≢false t refl
finite_number (inf s) t = true≢false t refl
finite_number (fin s m e) t = refl

-- the larger and the smaller of a number and anything
pub larger : (b : Bool) (x y : Float) → lt x y ≡ b → is_nan x ≡ false → is_nan (choose (false || b) y x) ≡ false
unfolding choose
larger true x y e h = lt_right x y e
larger false x y e h = h

pub smaller : (b : Bool) (x y : Float) → lt y x ≡ b → is_nan x ≡ false → is_nan (choose (false || b) y x) ≡ false
unfolding choose
smaller true x y e h = lt_left y x e
smaller false x y e h = h

pub max_number : (x y : Float) → is_nan x ≡ false → is_nan (maxf x y) ≡ false
unfolding maxf
max_number x y h = rw h (larger (lt x y) x y refl h)

pub min_number : (x y : Float) → is_nan x ≡ false → is_nan (minf x y) ≡ false
unfolding minf
min_number x y h = rw h (smaller (lt y x) x y refl h)

-- ---- a float below or above another does not equal it
pub false_if : (b : Bool) → (T b → ⊥) → b ≡ false
false_if true f = absurd (f tt)
false_if false f = refl

pub holds : (b : Bool) → b ≡ true → T b
holds true e = tt
holds false e = true≢false e refl

pub first : (a b : Bool) → T (a && b) → T a
first true b t = tt
first false b t = elim t [ ]

pub second : (a b : Bool) → T (a && b) → T b
second true b t = t
second false b t = elim t [ ]

pub below_level : (s : Bool) (a : ℕ) (t : Bool) (b : ℕ) → T (below s a t b) → T (level s a t b) → ⊥
below_level false a false b h k = let x : a < b = ltb→lt a b h in let y : a ≡ b = eqb→eq a b (first (eqb a b) _ k) in omega arith
below_level false a true b h k = h
below_level true a false b h k =
    let x : 0 < a + b = ltb→lt 0 (a + b) h in
    let y : a ≡ b = eqb→eq a b (first (eqb a b) _ k) in
    let z : a ≡ 0 = eqb→eq a 0 (second (eqb a b) _ k) in
    omega arith
below_level true a true b h k = let x : b < a = ltb→lt b a h in let y : a ≡ b = eqb→eq a b (first (eqb a b) _ k) in omega arith

pub above_level : (s : Bool) (a : ℕ) (t : Bool) (b : ℕ) → T (below s a t b) → T (level t b s a) → ⊥
above_level false a false b h k = let x : a < b = ltb→lt a b h in let y : b ≡ a = eqb→eq b a (first (eqb b a) _ k) in omega arith
above_level false a true b h k = h
above_level true a false b h k =
    let x : 0 < a + b = ltb→lt 0 (a + b) h in
    let y : b ≡ a = eqb→eq b a (first (eqb b a) _ k) in
    let z : b ≡ 0 = eqb→eq b 0 (second (eqb b a) _ k) in
    omega arith
above_level true a true b h k = let x : b < a = ltb→lt b a h in let y : b ≡ a = eqb→eq b a (first (eqb b a) _ k) in omega arith

pub signs : (s t : Bool) → T (s && not t) → T (beq s t) → ⊥
signs true true h k = h
signs true false h k = k
signs false true h k = h
signs false false h k = h

pub signs' : (s t : Bool) → T (s && not t) → T (beq t s) → ⊥
signs' true true h k = h
signs' true false h k = k
signs' false true h k = h
signs' false false h k = h

pub lt_eq : (x y : Float) → T (lt x y) → T (eq x y) → ⊥
unfolding lt eq
lt_eq nan y h k = h
lt_eq (inf s) nan h k = h
lt_eq (inf s) (inf t) h k = signs s t h k
lt_eq (inf s) (fin t n d) h k = k
lt_eq (fin s m e) nan h k = h
lt_eq (fin s m e) (inf t) h k = k
lt_eq (fin s m e) (fin t n d) h k = below_level s _ t _ h k

pub gt_eq : (x y : Float) → T (lt x y) → T (eq y x) → ⊥
unfolding lt eq
gt_eq nan y h k = h
gt_eq (inf s) nan h k = h
gt_eq (inf s) (inf t) h k = signs' s t h k
gt_eq (inf s) (fin t n d) h k = k
gt_eq (fin s m e) nan h k = h
gt_eq (fin s m e) (inf t) h k = k
gt_eq (fin s m e) (fin t n d) h k = above_level s _ t _ h k

pub positive : (a : Float) → gt a 0f ≡ true → Coefficient a
positive a h = record { number = lt_right 0f a h; nonzero = false_if _ (gt_eq 0f a (holds _ h)) }

pub negative : (a : Float) → lt a 0f ≡ true → Coefficient a
negative a h = record { number = lt_left a 0f h; nonzero = false_if _ (lt_eq a 0f (holds _ h)) }
