-- Numbers by their bytes, as the code reads them.
use Rattle.std.specs.Prelude.{ℕ, zero, suc, ◌+◌, ◌*◌, ◌≤◌, ◌<◌, ◌≡◌, refl, List, [], ◌∷◌, length, get_or, take, drop, Float, true, false, ◌==◌}
use Rattle.std.proofs.Common.{◌∙◌, ap, sym, arith, true≢false}
use Rattle.std.specs.Float.{binary64}
use Rattle.std.specs.Float.Ieee.{of_bits}
use Rattle.std.specs.Int.{w16, w64, from_le_bytes}
use Rattle.model_file.specs.Format.{Got, refused, got, and_then, many, byte, number, float, end}
use Rattle.model_file.specs.Places.{then_got, then_refused}
use Rattle.model_file.specs.Skips.{map_got, many_length}

-- the bytes as a number, the least significant first
unfoldable pub worth : List ℕ → ℕ
worth [] = 0
worth (b ∷ bs) = b + 256 * worth bs

-- n bytes are there, or not
pub bytes_there : (n : ℕ) (s : List ℕ) → n ≤ length s → many byte n s ≡ got (take n s) (drop n s)
unfolding many byte and_then
bytes_there zero s h = refl
bytes_there (suc n) [] h = absurd (omega arith)
bytes_there (suc n) (b ∷ s) h = then_got _ (bytes_there n s (omega arith))

pub bytes_short : (n : ℕ) (s : List ℕ) → length s < n → many byte n s ≡ refused 11
unfolding many byte and_then
bytes_short zero s h = absurd (omega arith)
bytes_short (suc n) [] h = refl
bytes_short (suc n) (b ∷ s) h = then_refused _ (bytes_short n s (omega arith))

pub bytes_split : (n : ℕ) (s : List ℕ) {bs r : List ℕ} → bs ≡ take n s → r ≡ drop n s → length r + n ≡ length s → many byte n s ≡ got bs r
bytes_split n s e f h = rw (e, f) (bytes_there n s (omega arith))

byte_first : (s : List ℕ) → byte s ≡ map_got (λ bs. get_or bs 0 0) (many byte 1 s)
unfolding many byte and_then map_got
byte_first [] = refl
byte_first (b ∷ s) = refl

pub byte_there : (s : List ℕ) {bs r : List ℕ} → many byte 1 s ≡ got bs r → byte s ≡ got (get_or bs 0 0) r
unfolding map_got
byte_there s e = byte_first s ∙ ap (map_got (λ bs. get_or bs 0 0)) e

pub byte_gone : (s : List ℕ) {k : ℕ} → many byte 1 s ≡ refused k → byte s ≡ refused k
unfolding map_got
byte_gone s e = byte_first s ∙ ap (map_got (λ bs. get_or bs 0 0)) e

number_cons : (b : ℕ) (g : Got (List ℕ)) → and_then (map_got worth g) (λ v. got (b + 256 * v)) ≡ map_got worth (and_then g (λ bs. got (b ∷ bs)))
unfolding and_then map_got worth
number_cons b (refused n) = refl
number_cons b (got bs r) = refl

number_worth : (n : ℕ) (s : List ℕ) → number n s ≡ map_got worth (many byte n s)
unfolding number many byte and_then map_got worth
number_worth zero s = refl
number_worth (suc n) [] = refl
number_worth (suc n) (b ∷ s) = rw (number_worth n s) (number_cons b (many byte n s))

worth_2 : (bs : List ℕ) → length bs ≡ 2 → from_le_bytes w16 bs ≡ worth bs
unfolding worth
worth_2 [] h = absurd (omega arith)
worth_2 (a ∷ []) h = absurd (omega arith)
worth_2 (a ∷ (b ∷ [])) h = omega arith
worth_2 (a ∷ (b ∷ (c ∷ s))) h = absurd (omega arith)

worth_8 : (bs : List ℕ) → length bs ≡ 8 → from_le_bytes w64 bs ≡ worth bs
unfolding worth
worth_8 [] h = absurd (omega arith)
worth_8 (a ∷ []) h = absurd (omega arith)
worth_8 (a ∷ (b ∷ [])) h = absurd (omega arith)
worth_8 (a ∷ (b ∷ (c ∷ []))) h = absurd (omega arith)
worth_8 (a ∷ (b ∷ (c ∷ (d ∷ [])))) h = absurd (omega arith)
worth_8 (a ∷ (b ∷ (c ∷ (d ∷ (e ∷ []))))) h = absurd (omega arith)
worth_8 (a ∷ (b ∷ (c ∷ (d ∷ (e ∷ (f ∷ [])))))) h = absurd (omega arith)
worth_8 (a ∷ (b ∷ (c ∷ (d ∷ (e ∷ (f ∷ (g ∷ []))))))) h = absurd (omega arith)
worth_8 (a ∷ (b ∷ (c ∷ (d ∷ (e ∷ (f ∷ (g ∷ (k ∷ [])))))))) h = omega arith
worth_8 (a ∷ (b ∷ (c ∷ (d ∷ (e ∷ (f ∷ (g ∷ (k ∷ (l ∷ s))))))))) h = absurd (omega arith)

-- a number that was read by its bytes
pub number_there : (n : ℕ) (s : List ℕ) {bs r : List ℕ} → many byte n s ≡ got bs r → number n s ≡ got (worth bs) r
unfolding map_got
number_there n s e = number_worth n s ∙ ap (map_got worth) e

pub number_gone : (n : ℕ) (s : List ℕ) {k : ℕ} → many byte n s ≡ refused k → number n s ≡ refused k
unfolding map_got
number_gone n s e = number_worth n s ∙ ap (map_got worth) e

pub number_2 : (s : List ℕ) {bs r : List ℕ} {v : ℕ} → many byte 2 s ≡ got bs r → v ≡ from_le_bytes w16 bs → number 2 s ≡ got v r
number_2 s {bs} {r} e f = number_there 2 s e ∙ ap (λ (v : ℕ). got v r) (sym (f ∙ worth_2 bs (many_length byte 2 s bs r e)))

pub float_there : (s : List ℕ) {bs r : List ℕ} {v : ℕ} {x : Float} → many byte 8 s ≡ got bs r → v ≡ from_le_bytes w64 bs → x ≡ of_bits binary64 v → float s ≡ got x r
unfolding float
float_there s {bs} {r} e f g = then_got _ (number_there 8 s e) ∙ ap (λ (y : Float). got y r) (sym (g ∙ ap (of_bits binary64) (f ∙ worth_8 bs (many_length byte 8 s bs r e))))

pub float_gone : (s : List ℕ) {k : ℕ} → many byte 8 s ≡ refused k → float s ≡ refused k
unfolding float
float_gone s e = then_refused _ (number_gone 8 s e)

-- ---- the end
pub end_there : (s : List ℕ) → true ≡ (length s == 0) → end s ≡ got tt s
unfolding end
end_there [] h = refl
end_there (b ∷ s) h = absurd (grind arith)

pub end_not : (s : List ℕ) → false ≡ (length s == 0) → end s ≡ refused 13
unfolding end
end_not [] h = absurd (true≢false (sym h))
end_not (b ∷ s) h = refl
