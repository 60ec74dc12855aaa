-- `next_up` steps by one in the bit pattern, which counts the floats of one sign in order.
use mathlib.Core.Path.{◌≡◌, sym, subst, ap, ◌∙◌}
use native.Mathlib.Omega.{arith}
use native.Mathlib.Nat.{add-sub_cancel}
use mathlib.Core.Bool.{Bool, not, true, false}
use Prim.Native.Nat.{ℕ, ◌-◌, ◌+◌}
use lib.Dec.{T}
use lib.Ieee.{Float, binary64, fits, is_nan, of_bits, to_bits, nan_bits}
use Rattle.floats.specs.Num.{next_up}
use Rattle.floats.proofs.Stepping.{At, at_is, at_number, at_lt, Down, down_step, up_step, top_step, zero_step, nan_step}
use Rattle.floats.proofs.next_up.Goals as goal
use Rattle.floats.proofs.next_up.Goals.{Then-x-2, Then-x-3}

held : (x : Float) → fits binary64 x ≡ true → T (fits binary64 x)
held x e = subst T (sym e) tt

number : (x : Float) → is_nan x ≡ false → T (not (is_nan x))
number x h = subst (λ (t : Bool). T (not t)) (sym h) tt

-- the pattern below that of x
below : (x : Float) (d : Down x) → to_bits binary64 x - 1 ≡ d.b
below x d = ap (λ (z : ℕ). z - 1) d.is ∙ add-sub_cancel d.b 1

downward : (c : Then-x-2) → Down c.args.x
downward c = down_step c.args.x (held c.args.x c.well_formed.0.1) c.if-x-2.true

upward : (c : Then-x-3) → At (to_bits binary64 c.args.x + 1) (next_up c.args.x)
upward c = up_step c.args.x (held c.args.x c.well_formed.0.1) c.if-x-2.false c.if-x.false c.if-x-3.true

pub float_to_bits-result : goal.float_to_bits-result
float_to_bits-result c = number c.args.x (sym c.is_nan.ensures.value ∙ c.if-is_nan.false)

pub overflow_sub-result : goal.overflow_sub-result
overflow_sub-result c = let d = downward c in omega arith

pub float_from_bits-result : goal.float_from_bits-result
float_from_bits-result c = let x = c.args.x in let d = downward c in
    subst (λ (z : ℕ). T (not (nan_bits binary64 z))) (sym (below x d)) (at_number d.b (next_up x) d.at)

pub float_to_bits-result-then-x-3 : goal.float_to_bits-result-then-x-3
float_to_bits-result-then-x-3 c = number c.args.x (sym c.is_nan.ensures.value ∙ c.if-is_nan.false)

pub overflow_add-result : goal.overflow_add-result
overflow_add-result c = record { fits = at_lt _ _ (upward c) }

pub float_from_bits-result-then-x-3 : goal.float_from_bits-result-then-x-3
float_from_bits-result-then-x-3 c = at_number _ _ (upward c)

pub returns-then-is_nan : goal.returns-then-is_nan
returns-then-is_nan c = nan_step c.args.x (sym c.is_nan.ensures.value ∙ c.if-is_nan.true)

pub returns-then-x : goal.returns-then-x
returns-then-x c = zero_step c.args.x (held c.args.x c.well_formed.0.1) c.if-x.true

pub returns-then-x-2 : goal.returns-then-x-2
returns-then-x-2 c = let x = c.args.x in let d = downward c in ap (of_bits binary64) (below x d) ∙ at_is d.b (next_up x) d.at

pub returns-then-x-3 : goal.returns-then-x-3
returns-then-x-3 c = at_is _ _ (upward c)

pub returns-else-x-3 : goal.returns-else-x-3
returns-else-x-3 c = top_step c.args.x (held c.args.x c.well_formed.0.1) (sym c.is_nan.ensures.value ∙ c.if-is_nan.false) c.if-x-2.false c.if-x.false c.if-x-3.false
