-- The code's answers as the definition's: what was read, with the bytes that are left then, or the refusal's number. And how the definition reads at a place of the file.
use Rattle.std.specs.Prelude.{ℕ, zero, suc, ◌+◌, ◌-◌, ◌*◌, ◌/◌, ◌%◌, ◌^◌, ◌≤◌, ◌<◌, ◌≡◌, refl, List, Bool, true, false, length, get_or, drop, Float, Result, Ok, Err}
use Rattle.std.proofs.Common.{◌∙◌, add-one, lt-ltb, le-ltb, add-zero, arith, drop_of_length-le, drop-cons}
use Rattle.std.proofs.Math.Numerals.{add-two, add-four}
use Rattle.std.proofs.Math.Decide.{dec_lt}
use Rattle.std.proofs.lemmas.Bool.{false≢true}
use Rattle.std.specs.Float.{nan, inf, fin, binary64}
use Rattle.std.specs.Float.Ieee.{is_nan, of_bits}
use Rattle.model_file.specs.Format.{Got, refused, got, Parser, and_then, byte, number, refuse, float, optional, count, code, values, variable, side, head}
use Rattle.model_file.specs.declared.FileRefusal.{FileRefusal}
use Rattle.model_file.specs.Reading.{number_of}

-- ---- the answers
abbrev pub answered : {A : Type 0} → Result A FileRefusal → List ℕ → Got A
answered (Ok x) s = got x s
answered (Err e) s = refused (number_of e)

-- ---- one after the other
pub then_got : {A B : Type 0} {g : Got A} {a : A} {s : List ℕ} (f : A → Parser B) → g ≡ got a s → and_then g f ≡ f a s
unfolding and_then
then_got f e = rw e

pub then_refused : {A B : Type 0} {g : Got A} {n : ℕ} (f : A → Parser B) → g ≡ refused n → and_then g f ≡ refused n
unfolding and_then
then_refused f e = rw e

-- ---- bytes
pub byte_got : (s : List ℕ) (at : ℕ) → at < length s → byte (drop at s) ≡ got (get_or s at 0) (drop (at + 1) s)
unfolding byte
byte_got s at h = rw (add-one, drop-cons s at 0 h)

pub byte_end : (s : List ℕ) (at : ℕ) → length s ≤ at → byte (drop at s) ≡ refused 11
unfolding byte
byte_end s at h = rw (drop_of_length-le s h)

-- ---- numbers
-- the n bytes from a place on, the least significant first
unfoldable pub value_at : ℕ → ℕ → List ℕ → ℕ
value_at zero at s = 0
value_at (suc n) at s = get_or s at 0 + 256 * value_at n (suc at) s

-- a number that stands at a place
pub record NumberAt (n at : ℕ) (s : List ℕ) (r : ℕ) : Type 0 where
  pub value : r ≡ value_at n at s
  pub small : r < 256 ^ n

pub number_got_lem : (n at : ℕ) (s : List ℕ) → at + n ≤ length s → number n (drop at s) ≡ got (value_at n at s) (drop (at + n) s)
unfolding number value_at
number_got_lem zero at s h = rw add-zero
number_got_lem (suc n) at s h =
    let e : suc at + n ≡ at + suc n = omega arith in
    then_got _ (byte_got s at (omega arith)) ∙ rw add-one (then_got _ (number_got_lem n (suc at) s (omega arith)) ∙ rw e)

pub number_is : {n at r : ℕ} {s : List ℕ} → NumberAt n at s r → at + n ≤ length s → number n (drop at s) ≡ got r (drop (at + n) s)
number_is {n} {at} {r} {s} v h = rw v.value (number_got_lem n at s h)

number_short : (n at : ℕ) (s : List ℕ) → Dec (at < length s) → length s < at + suc n → number (suc n) (drop at s) ≡ refused 11
unfolding number
number_short zero at s (yes p) h = absurd (omega arith)
number_short zero at s (no p) h = then_refused _ (byte_end s at (omega arith))
number_short (suc n) at s (yes p) h = then_got _ (byte_got s at p) ∙ then_refused _ (number_short n (at + 1) s (dec_lt (at + 1) (length s)) (omega arith))
number_short (suc n) at s (no p) h = then_refused _ (byte_end s at (omega arith))

pub number_end : (n at : ℕ) (s : List ℕ) → length s < at + suc n → number (suc n) (drop at s) ≡ refused 11
number_end n at s h = number_short n at s (dec_lt at (length s)) h

pub two_value : (at : ℕ) (s : List ℕ) → get_or s at 0 + 256 * get_or s (at + 1) 0 ≡ value_at 2 at s
unfolding value_at
two_value at s = rw add-one (omega arith)

pub four_value : (at : ℕ) (s : List ℕ) → value_at 2 at s + 65536 * value_at 2 (at + 2) s ≡ value_at 4 at s
unfolding value_at
four_value at s = rw add-two (omega arith)

pub eight_value : (at : ℕ) (s : List ℕ) → value_at 4 at s + 4294967296 * value_at 4 (at + 4) s ≡ value_at 8 at s
unfolding value_at
eight_value at s = rw add-four (omega arith)

-- ---- refusals
pub refuse_yes : {b : Bool} (n : ℕ) (s : List ℕ) → b ≡ true → refuse n b s ≡ refused n
unfolding refuse
refuse_yes n s e = rw e

pub refuse_no : {b : Bool} (n : ℕ) (s : List ℕ) → b ≡ false → refuse n b s ≡ got tt s
unfolding refuse
refuse_no n s e = rw e

-- ---- floats and counts
pub float_end : (at : ℕ) (s : List ℕ) → length s - at < 8 → float (drop at s) ≡ refused 11
unfolding float
float_end at s h = then_refused _ (number_end 7 at s (omega arith))

pub float_got_lem : {at b : ℕ} {x : Float} {s : List ℕ} → at + 8 ≤ length s → NumberAt 8 at s b → x ≡ of_bits binary64 b → float (drop at s) ≡ got x (drop (at + 8) s)
unfolding float
float_got_lem {at} {b} {x} {s} h v e = then_got _ (number_is v h) ∙ rw (← e)

pub count_end : (at : ℕ) (s : List ℕ) → length s - at < 2 → count (drop at s) ≡ refused 11
unfolding count
count_end at s h = then_refused _ (number_end 1 at s (omega arith))

pub count_over : {at n : ℕ} {s : List ℕ} → at + 2 ≤ length s → NumberAt 2 at s n → 128 < n → count (drop at s) ≡ refused 14
unfolding count
count_over {at} {n} {s} h v o = then_got _ (number_is v h) ∙ then_refused _ (refuse_yes 14 (drop (at + 2) s) (lt-ltb 128 n o))

pub count_got : {at n : ℕ} {s : List ℕ} → at + 2 ≤ length s → NumberAt 2 at s n → n ≤ 128 → count (drop at s) ≡ got n (drop (at + 2) s)
unfolding count
count_got {at} {n} {s} h v o = then_got _ (number_is v h) ∙ then_got _ (refuse_no 14 (drop (at + 2) s) (le-ltb 128 n o))

pub optional_present : {present : Bool} (absent : Float) (s : List ℕ) → present ≡ true → optional present absent s ≡ float s
unfolding optional
optional_present absent s e = rw e

pub optional_absent : {present : Bool} (absent : Float) (s : List ℕ) → present ≡ false → optional present absent s ≡ got absent s
unfolding optional
optional_absent absent s e = rw e

-- a float that was asked for by equal tests and defaults
pub optional_is : {present p : Bool} {absent x : Float} (s : List ℕ) {g : Got Float} → p ≡ present → x ≡ absent → optional p x s ≡ g → optional present absent s ≡ g
optional_is s e f h = rw (← e, ← f) h

pub no_number : (x : Float) → is_nan x ≡ true → x ≡ nan
unfolding is_nan
no_number nan e = refl
no_number (inf s) e = absurd (false≢true e)
no_number (fin s m e') e = absurd (false≢true e)

pub nan_is : (b : ℕ) → is_nan (of_bits binary64 b) ≡ true → of_bits binary64 b ≡ nan
nan_is b e = no_number (of_bits binary64 b) e

-- ---- parts
module _ (s : List ℕ) (at : ℕ) where
  pub variable_end : length s ≤ at → variable (drop at s) ≡ refused 11
  unfolding variable
  variable_end h = then_refused _ (byte_end s at h)

  module _ (h : at < length s) where
    pub variable_reserved : 31 < get_or s at 0 → variable (drop at s) ≡ refused 12
    unfolding variable
    variable_reserved r = then_got _ (byte_got s at h) ∙ then_refused _ (refuse_yes 12 (drop (at + 1) s) (lt-ltb 31 (get_or s at 0) r))

    pub variable_code : get_or s at 0 ≤ 31 → 2 < get_or s at 0 / 8 % 4 → variable (drop at s) ≡ refused 12
    unfolding variable
    variable_code r d = then_got _ (byte_got s at h) ∙ then_got _ (refuse_no 12 (drop (at + 1) s) (le-ltb 31 (get_or s at 0) r))
        ∙ then_refused _ (refuse_yes 12 (drop (at + 1) s) (lt-ltb 2 (get_or s at 0 / 8 % 4) d))

    pub variable_values : get_or s at 0 ≤ 31 → get_or s at 0 / 8 % 4 ≤ 2 → variable (drop at s) ≡ values (get_or s at 0) (drop (at + 1) s)
    unfolding variable
    variable_values r d = then_got _ (byte_got s at h) ∙ then_got _ (refuse_no 12 (drop (at + 1) s) (le-ltb 31 (get_or s at 0) r))
        ∙ then_got _ (refuse_no 12 (drop (at + 1) s) (le-ltb 2 (get_or s at 0 / 8 % 4) d))

  pub head_end : (t : ℕ) → length s ≤ at → head t (drop at s) ≡ refused 11
  unfolding head
  head_end t h = then_refused _ (byte_end s at h)

  module _ (t : ℕ) (h : at < length s) where
    pub head_reserved : 7 < get_or s at 0 → head t (drop at s) ≡ refused 12
    unfolding head
    head_reserved r = then_got _ (byte_got s at h) ∙ then_refused _ (refuse_yes 12 (drop (at + 1) s) (lt-ltb 7 (get_or s at 0) r))

    pub head_code : get_or s at 0 ≤ 7 → 2 < get_or s at 0 % 4 → head t (drop at s) ≡ refused 12
    unfolding head
    head_code r d = then_got _ (byte_got s at h) ∙ then_got _ (refuse_no 12 (drop (at + 1) s) (le-ltb 7 (get_or s at 0) r))
        ∙ then_refused _ (refuse_yes 12 (drop (at + 1) s) (lt-ltb 2 (get_or s at 0 % 4) d))

    pub head_side : get_or s at 0 ≤ 7 → get_or s at 0 % 4 ≤ 2 → head t (drop at s) ≡ side t (get_or s at 0) (drop (at + 1) s)
    unfolding head
    head_side r d = then_got _ (byte_got s at h) ∙ then_got _ (refuse_no 12 (drop (at + 1) s) (le-ltb 7 (get_or s at 0) r))
        ∙ then_got _ (refuse_no 12 (drop (at + 1) s) (le-ltb 2 (get_or s at 0 % 4) d))

  pub code_end : length s ≤ at → code (drop at s) ≡ refused 11
  unfolding code
  code_end h = then_refused _ (byte_end s at h)

  pub code_over : at < length s → 2 < get_or s at 0 → code (drop at s) ≡ refused 12
  unfolding code
  code_over h r = then_got _ (byte_got s at h) ∙ then_refused _ (refuse_yes 12 (drop (at + 1) s) (lt-ltb 2 (get_or s at 0) r))

  pub code_got : at < length s → get_or s at 0 ≤ 2 → code (drop at s) ≡ got (get_or s at 0) (drop (at + 1) s)
  unfolding code
  code_got h r = then_got _ (byte_got s at h) ∙ then_got _ (refuse_no 12 (drop (at + 1) s) (le-ltb 2 (get_or s at 0) r))
