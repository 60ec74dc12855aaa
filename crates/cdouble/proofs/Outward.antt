-- `rounded` GOES OUTWARD: up, it is the least float at or above the exact sum hi + lo, an infinity past the largest number; down, the greatest at or below it.
-- The conditions are those of two_sum_lem: hi, lo and their rounded sum are numbers, and lo is neither the largest number nor its negative.
use Rattle.std.specs.Prelude.{◌≡◌, ◌+◌, ◌<◌, Bool, not, leb, ℤ, ◌+ℤ◌, Float}
use Rattle.std.proofs.Math.Path.{refl, ap, subst}
use Rattle.std.proofs.Common.{sym, ◌∙◌, le_of_lt, not-le_of_lt, arith, leb→le}
use Rattle.std.proofs.Math.Bool.{true, false}
use Rattle.std.proofs.Math.Dec.{T, nleb→lt}
use Rattle.std.proofs.Math.IntN.{pos}
use Rattle.std.specs.Float.{inf}
use Rattle.std.specs.Float.Ieee.{fits, of_bits, lt}
use Rattle.std.specs.Float.Ieee.Scale.{finite}
use Rattle.floats.specs.Zed.{P, N, ◌⊑◌, ◌⊏◌, add_parts}
use Rattle.floats.specs.Signed.{rz, rz_fix, rz_mono}
use Rattle.floats.specs.Value.{mags, sign, units, Num, TOP, add_units}
use Rattle.floats.specs.Order.{Real, num_real, rank, rank_num, rank_rep, lt→⊏, nlt→⊑}
use Rattle.floats.specs.Meaning.{NextOf, BeforeOf}
use Rattle.floats.proofs.Meaning.{next_up_value, next_down_value}
use Rattle.floats.specs.Num.{◌⊕◌, 0f, next_up, next_down}
use Rattle.cdouble.specs.declared.CDouble.{CDouble}
use Rattle.cdouble.specs.Double.{two_sum, rounded}
use Rattle.cdouble.specs.Exact.{ExactSum}
use Rattle.cdouble.proofs.TwoSumExact.{two_sum_exact}
use Rattle.cdouble.specs.Rounding.{going_up, staying_up, going_down, staying_down}
use Rattle.cdouble.specs.Outward.{DownOf, UpOf, s}

pub zero_num : Num 0f
unfolding of_bits fits
zero_num = (tt, tt)

pub zero_rank : rank 0f ≡ pos 0
unfolding of_bits rank units sign mags
zero_rank = refl

pub not_inf : (x : Float) (s : Bool) → Num x → x ≡ inf s → ⊥
not_inf x s h e = subst (λ (z : Float). T (finite z)) e h.0

-- what is held is not passed by rounding
pub held_mono : (y : Float) → Real y → (s : ℤ) → (s ⊑ rank y → rz s ⊑ rank y) × (rank y ⊑ s → rank y ⊑ rz s)
held_mono y hy s = (
  (λ h. subst (λ (z : ℤ). rz s ⊑ z) (rz_fix (rank y) (rank_rep y hy)) (rz_mono s (rank y) h)),
  (λ h. subst (λ (z : ℤ). z ⊑ rz s) (rz_fix (rank y) (rank_rep y hy)) (rz_mono (rank y) s h)),
)

module _ (d : CDouble) (nh : Num d.hi) (nl : Num d.lo) (f : T (finite (d.hi ⊕ d.lo))) (small : mags d.lo < TOP) where
  pub two : CDouble
  two = two_sum d.hi d.lo

  pub E : ExactSum d.hi d.lo
  E = two_sum_exact d.hi d.lo nh nl f small

  pub x_is : rank two.hi ≡ rz (s d nh nl f small)
  unfolding two_sum two s
  x_is = rank_num two.hi E.high_num ∙ add_units d.hi d.lo nh nl f

  pub real_x : Real two.hi
  unfolding two
  real_x = num_real two.hi E.high_num

  pub sum_is : rank two.hi +ℤ rank two.lo ≡ (s d nh nl f small)
  unfolding two s
  sum_is = ap (λ (z : ℤ). z +ℤ rank two.lo) (rank_num two.hi E.high_num) ∙ ap (λ (z : ℤ). units two.hi +ℤ z) (rank_num two.lo E.low_num) ∙ E.exact

  pub more : (x l t : ℤ) → x +ℤ l ≡ t → pos 0 ⊏ l → x ⊏ t
  more x l t e h = omega (arith, ap P e, ap N e, add_parts x l)

  pub no_more : (x l t : ℤ) → x +ℤ l ≡ t → l ⊑ pos 0 → t ⊑ x
  no_more x l t e h = omega (arith, ap P e, ap N e, add_parts x l)

  pub less : (x l t : ℤ) → x +ℤ l ≡ t → l ⊏ pos 0 → t ⊏ x
  less x l t e h = omega (arith, ap P e, ap N e, add_parts x l)

  pub no_less : (x l t : ℤ) → x +ℤ l ≡ t → pos 0 ⊑ l → x ⊑ t
  no_less x l t e h = omega (arith, ap P e, ap N e, add_parts x l)

  pub chain : (a b c : ℤ) → a ⊏ b → b ⊑ c → a ⊏ c
  chain a b c h k = omega arith

  pub chain' : (a b c : ℤ) → a ⊑ b → b ⊏ c → a ⊏ c
  chain' a b c h k = omega arith

  pub real_l : Real two.lo
  unfolding two
  real_l = num_real two.lo E.low_num

  pub real_0 : Real 0f
  real_0 = num_real 0f zero_num

  pub rounded_up : UpOf (units d.hi +ℤ units d.lo) (rounded d true)
  unfolding s two
  rounded_up = go (lt 0f two.lo) refl
    where
      go : (b : Bool) → lt 0f two.lo ≡ b → UpOf (s d nh nl f small) (rounded d true)
      go true h =
          let V0 = next_up_value two.hi real_x (not_inf two.hi false E.high_num) in
          let r = next_up two.hi in
          let p : pos 0 ⊏ rank two.lo = subst (λ (z : ℤ). z ⊏ rank two.lo) zero_rank (lt→⊏ 0f two.lo real_0 real_l (subst T (sym h) tt)) in
          let x_below = more (rank two.hi) (rank two.lo) (s d nh nl f small) sum_is p in
          subst (UpOf (s d nh nl f small)) (going_up d two refl true refl h)
          (record {
            real = V0.real;
            above = in_order (leb (P (s d nh nl f small) + N (rank r)) (P (rank r) + N (s d nh nl f small)))
                (leb→le (P (s d nh nl f small) + N (rank r)) (P (rank r) + N (s d nh nl f small))) (nleb→lt (P (s d nh nl f small) + N (rank r)) (P (rank r) + N (s d nh nl f small))) V0;
            least = λ y hy o. V0.least y hy (chain (rank two.hi) (s d nh nl f small) (rank y) x_below o);
          })
        where
          in_order : (b : Bool) → (T b → (s d nh nl f small) ⊑ rank (next_up two.hi)) → (T (not b) → rank (next_up two.hi) ⊏ (s d nh nl f small)) → NextOf two.hi (next_up two.hi)
              → (s d nh nl f small) ⊑ rank (next_up two.hi)
          in_order true a b V0 = a tt
          in_order false a b V0 = absurd (not-le_of_lt V0.above (subst (λ (z : ℤ). rank (next_up two.hi) ⊑ z) (sym x_is)
              ((held_mono (next_up two.hi) V0.real (s d nh nl f small)).1 (le_of_lt (b tt)))))
      go false h =
          let p : rank two.lo ⊑ pos 0 = subst (λ (z : ℤ). rank two.lo ⊑ z) zero_rank (nlt→⊑ 0f two.lo real_0 real_l (subst (λ (t : Bool). T (not t)) (sym h) tt)) in
          subst (UpOf (s d nh nl f small)) (staying_up d two refl true refl h)
          (record {
            real = real_x;
            above = no_more (rank two.hi) (rank two.lo) (s d nh nl f small) sum_is p;
            least = λ y hy o. subst (λ (z : ℤ). z ⊑ rank y) (sym x_is) ((held_mono y hy (s d nh nl f small)).0 o);
          })

  pub rounded_down : DownOf (units d.hi +ℤ units d.lo) (rounded d false)
  unfolding s two
  rounded_down = go (lt two.lo 0f) refl
    where
      go : (b : Bool) → lt two.lo 0f ≡ b → DownOf (s d nh nl f small) (rounded d false)
      go true h =
          let V0 = next_down_value two.hi real_x (not_inf two.hi true E.high_num) in
          let r = next_down two.hi in
          let p : rank two.lo ⊏ pos 0 = subst (λ (z : ℤ). rank two.lo ⊏ z) zero_rank (lt→⊏ two.lo 0f real_l real_0 (subst T (sym h) tt)) in
          let x_above = less (rank two.hi) (rank two.lo) (s d nh nl f small) sum_is p in
          subst (DownOf (s d nh nl f small)) (going_down d two refl false refl h)
          (record {
            real = V0.real;
            below = in_order (leb (P (rank r) + N (s d nh nl f small)) (P (s d nh nl f small) + N (rank r)))
                (leb→le (P (rank r) + N (s d nh nl f small)) (P (s d nh nl f small) + N (rank r))) (nleb→lt (P (rank r) + N (s d nh nl f small)) (P (s d nh nl f small) + N (rank r))) V0;
            greatest = λ y hy o. V0.greatest y hy (chain' (rank y) (s d nh nl f small) (rank two.hi) o x_above);
          })
        where
          in_order : (b : Bool) → (T b → rank (next_down two.hi) ⊑ (s d nh nl f small)) → (T (not b) → (s d nh nl f small) ⊏ rank (next_down two.hi))
              → BeforeOf two.hi (next_down two.hi) → rank (next_down two.hi) ⊑ (s d nh nl f small)
          in_order true a b V0 = a tt
          in_order false a b V0 = absurd (not-le_of_lt V0.below (subst (λ (z : ℤ). z ⊑ rank (next_down two.hi)) (sym x_is)
              ((held_mono (next_down two.hi) V0.real (s d nh nl f small)).0 (le_of_lt (b tt)))))
      go false h =
          let p : pos 0 ⊑ rank two.lo = subst (λ (z : ℤ). z ⊑ rank two.lo) zero_rank (nlt→⊑ two.lo 0f real_l real_0 (subst (λ (t : Bool). T (not t)) (sym h) tt)) in
          subst (DownOf (s d nh nl f small)) (staying_down d two refl false refl h)
          (record {
            real = real_x;
            below = no_less (rank two.hi) (rank two.lo) (s d nh nl f small) sum_is p;
            greatest = λ y hy o. subst (λ (z : ℤ). rank y ⊑ z) (sym x_is) ((held_mono y hy (s d nh nl f small)).1 o);
          })
