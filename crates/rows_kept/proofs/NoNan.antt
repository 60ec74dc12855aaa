-- No bound that goes out is a NaN: rounding takes numbers to numbers, and every later bound is a number.
use Prim.Native.Nat.{ℕ, zero, suc, ◌+◌, ◌-◌, ◌*◌, ◌^◌, ◌/◌, ◌%◌, ◌<◌, compare}
use Rattle.std.proofs.Common.{arith, ap, ◌∙◌, length-set, get_or-set_same, get_or-set_other}
use Rattle.std.proofs.Math.Decide.{ℕ_discrete}
use Rattle.std.specs.Prelude.{◌≡◌, refl, Bool, true, false, ◌&&◌, cond, List, ltb, length, set, Float}
use Rattle.std.specs.Bool.{beq}
use Rattle.std.specs.Float.{Format, nan, inf, fin}
use Rattle.std.specs.Float.Ieee.{binary64, low, prec, emax, size, nearest, is_nan, odd, units, round, neg, sum, add, sub}
use Rattle.floats.specs.Num.{is_finite, sign_of, trunc_of, away_of, plus_zero, floor, ceil}
use Rattle.tolerances.specs.Tol.{at}
use Rattle.definition.specs.Model.{Model}
use Rattle.definition.specs.Work.{drop_row}
use Rattle.definition.specs.Begin.{rounded_lower, rounded_upper}
use Rattle.definition.specs.Choices.{true≢false, taking}
use Rattle.rows_kept.specs.Kept.{Value, of_lower, of_upper, Kept}
use Rattle.rows_kept.specs.Whole.{Rounded, as_given, rounded, HeldThroughout}
use Rattle.rows_kept.specs.NoNan.{NoNan, Numbers, Numeric}

-- ---- an operation on a finite float and a number gives a number
pub either : (b : Bool) (x y : Float) → is_nan x ≡ false → is_nan y ≡ false → is_nan (cond b x y) ≡ false
either true x y p q = p
either false x y p q = q

pub odd_number : (d : ℕ) (s : Bool) (q k l : ℕ) → is_nan (odd d s q k l) ≡ false
unfolding odd is_nan
odd_number d s zero k l = refl
odd_number d s (suc q) k l = refl

pub units_number : (f : Format) (s : Bool) (q k : ℕ) → is_nan (units f s q k) ≡ false
unfolding units is_nan
units_number f s q k = either (ltb (q * 2 ^ k) (2 ^ (low f + suc (emax f)))) (odd (suc (prec f)) s q k (low f)) (inf s) (odd_number (suc (prec f)) s q k (low f)) refl

pub round_number : (f : Format) (s : Bool) (n d : ℕ) → is_nan (round f s n d) ≡ false
unfolding round
round_number f s n d =
    let m : ℕ = n * 2 ^ low f in
    let k : ℕ = size (m / d) - prec f in
    let u : ℕ = d * 2 ^ k in
    units_number f s (nearest (m / u) (compare (m % u * 2) u)) k

pub sum_number : (f : Format) (s : Bool) (a : ℕ) (t : Bool) (b c : ℕ) → is_nan (sum f s a t b c) ≡ false
unfolding sum
sum_number f s a t b c =
    let x : Float = round f t (b - a) c in
    let y : Float = round f (s && ltb b a) (a - b) c in
    either (beq s t) (round f s (a + b) c) (cond (ltb a b) x y) (round_number f s (a + b) c)
    (either (ltb a b) x y (round_number f t (b - a) c) (round_number f (s && ltb b a) (a - b) c))

pub add_number : (f : Format) (x y : Float) → is_finite x ≡ true → is_nan y ≡ false → is_nan (add f x y) ≡ false
unfolding add is_nan is_finite
add_number f nan y h k = true≢false h refl
add_number f (inf s) y h k = true≢false h refl
add_number f (fin s m e) nan h k = true≢false refl k
add_number f (fin s m e) (inf t) h k = refl
add_number f (fin s m e) (fin t n d) h k = sum_number f s _ t _ _

pub neg_number : (x : Float) → is_nan x ≡ false → is_nan (neg x) ≡ false
unfolding neg is_nan
neg_number nan h = h
neg_number (inf s) h = refl
neg_number (fin s m e) h = refl

pub sub_number : (f : Format) (x y : Float) → is_finite x ≡ true → is_nan y ≡ false → is_nan (sub f x y) ≡ false
unfolding sub
sub_number f x y h k = add_number f x (neg y) h (neg_number y k)

pub trunc_number : (x : Float) → is_nan x ≡ false → is_nan (trunc_of x) ≡ false
unfolding trunc_of is_nan
trunc_number nan h = h
trunc_number (inf s) h = refl
trunc_number (fin s m e) h = round_number binary64 s _ 1

pub away_number : (x : Float) → is_nan x ≡ false → is_nan (away_of x) ≡ false
unfolding away_of is_nan
away_number nan h = h
away_number (inf s) h = refl
away_number (fin s m e) h = round_number binary64 s _ 1

pub plus_number : (x : Float) → is_nan x ≡ false → is_nan (plus_zero x) ≡ false
unfolding plus_zero is_nan
plus_number nan h = h
plus_number (inf s) h = refl
plus_number (fin s zero e) h = refl
plus_number (fin s (suc m) e) h = refl

pub floor_number : (x : Float) → is_nan x ≡ false → is_nan (floor x) ≡ false
unfolding floor
floor_number x h = plus_number _ (either (sign_of x) (away_of x) (trunc_of x) (away_number x h) (trunc_number x h))

pub ceil_number : (x : Float) → is_nan x ≡ false → is_nan (ceil x) ≡ false
unfolding ceil
ceil_number x h = plus_number _ (either (sign_of x) (trunc_of x) (away_of x) (trunc_number x h) (away_number x h))

pub numeric_set : (n : ℕ) (l : List Float) (v : ℕ) (x : Float) → (v < n → is_nan x ≡ false) → Numeric n l → Numeric n (set l v x)
numeric_set n l v x h k =
    record {
      size = length-set l v x ∙ k.size;
      number =
          λ q i. elim (ℕ_discrete q v) [
            | yes e ↦ ap (λ (j : ℕ). is_nan (at (set l v x) j)) e ∙ ap is_nan (get_or-set_same l v x nan (omega (arith, k.size, e))) ∙ h (omega (arith, e))
            | no d ↦ ap is_nan (get_or-set_other l v q x nan d) ∙ k.number q i
          ];
    }

module _ (M : Model) (N : Numbers M) where
  pub number : {v : ℕ} {x : Float} → Value (NoNan M N) v x → v < length M.lower → is_nan x ≡ false
  number {v} (of_lower w p n) h = n (p.lower.number v h)
  number {v} (of_upper w p n) h = n (p.upper.number v h)

  pub kept : Kept M (NoNan M N)
  unfolding drop_row
  kept =
      record {
        bounding =
            record {
              marking = record { marks = λ w d c q p. record { lower = p.lower; upper = p.upper }; counted = λ w a b c p. record { lower = p.lower; upper = p.upper } };
              works = λ w a b p. record { lower = p.lower; upper = p.upper };
              lowers = λ w v x i b p. record { lower = numeric_set _ w.elo v x (number b) p.lower; upper = p.upper };
              uppers = λ w v x i b p. record { lower = p.lower; upper = numeric_set _ w.ehi v x (number b) p.upper };
            };
        rowing = record { changes = λ w r row a c p. record { lower = p.lower; upper = p.upper }; drops = λ w r row g a p. record { lower = p.lower; upper = p.upper } };
      }

  pub lower_number : (l : Float) → is_nan l ≡ false → is_nan (rounded_lower M.int_tol l) ≡ false
  unfolding rounded_lower
  lower_number l h = taking (λ (x : Float). is_nan x ≡ false) _ (λ f. ceil_number _ (sub_number binary64 l M.int_tol f N.tolerance)) (λ f. h)

  pub upper_number : (l : Float) → is_nan l ≡ false → is_nan (rounded_upper M.int_tol l) ≡ false
  unfolding rounded_upper
  upper_number l h = taking (λ (x : Float). is_nan x ≡ false) _ (λ f. floor_number _ (add_number binary64 l M.int_tol f N.tolerance)) (λ f. h)

  pub rounded_lower_lem : {ls hs : List Float} → Rounded M ls hs → Numeric (length M.lower) ls
  rounded_lower_lem as_given = record { size = refl; number = N.lower }
  rounded_lower_lem (rounded {ls} v i h) = let k : Numeric (length M.lower) ls = rounded_lower_lem h in numeric_set _ ls v _ (λ l. lower_number _ (k.number v l)) k

  pub rounded_upper_lem : {ls hs : List Float} → Rounded M ls hs → Numeric (length M.lower) hs
  rounded_upper_lem as_given = record { size = N.sizes; number = N.upper }
  rounded_upper_lem (rounded {hs = hs} v i h) = let k : Numeric (length M.lower) hs = rounded_upper_lem h in numeric_set _ hs v _ (λ l. upper_number _ (k.number v l)) k

  pub no_nan_held : HeldThroughout M (NoNan M N)
  no_nan_held =
      record {
        kept = kept;
        passes = λ w p. record { lower = p.lower; upper = p.upper };
        begins = λ ls hs rows queue dirty n b h. record { lower = rounded_lower_lem b; upper = rounded_upper_lem b };
      }
