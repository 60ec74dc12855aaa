-- THE MARK OF AN EMITTED ROW in the result slice: 0 written, 1 rewritten. It is a number and no Bool, so that the caller may lend any bytes.
use Rattle.std.specs.Prelude.{ℕ, ◌≡◌, refl, Bool, true, false, not, eqb}
use Rattle.std.proofs.Common.{ap, sym, ◌∙◌, eq-eqb, ne_eqb}

unfoldable pub mark : Bool → ℕ
mark true = 1
mark false = 0

-- a mark read back: 0 is written, any other number rewritten
unfoldable pub marked : ℕ → Bool
marked m = not (eqb m 0)

pub marked_mark : (b : Bool) → marked (mark b) ≡ b
unfolding marked mark
marked_mark true = refl
marked_mark false = refl

-- ---- mark_of, by the test
pub mark_one : {b c : Bool} → b ≡ c → b ≡ true → 1 ≡ mark c
unfolding mark
mark_one e t = sym (ap mark (sym e ∙ t))

pub mark_zero : {b c : Bool} → b ≡ c → b ≡ false → 0 ≡ mark c
unfolding mark
mark_zero e t = sym (ap mark (sym e ∙ t))

-- ---- a mark, by the test
pub is_rewritten_lem : {m : ℕ} → (m ≡ 0 → ⊥) → marked m ≡ true
unfolding marked
is_rewritten_lem {m} h = ap not (ne_eqb m 0 h)

pub is_written : {m : ℕ} → m ≡ 0 → marked m ≡ false
unfolding marked
is_written {m} h = ap not (eq-eqb m 0 h)
