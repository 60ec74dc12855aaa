-- THE NUMBERS OF THE REFUSALS: the reader's go from 11 to 14, the table's up to 18, and up to 9 of a model that a file can have, where no lent slice is too short.
use Rattle.std.specs.Prelude.{ℕ, zero, suc, ◌≤◌, ◌≡◌, refl, Bool, true, false, List, [], ◌∷◌, length, Float}
use Rattle.std.proofs.Common.{arith, sym, ◌∙◌, true≢false}
use Rattle.std.proofs.Math.Option.{Option, some, none-ne-some, some-injective}
use Rattle.floats.specs.Num.{choose}
use Rattle.definition.specs.Model.{Model}
use Rattle.definition.specs.Refusal.{Lent, earliest}
use Rattle.definition.specs.Refusal as call
use Rattle.refuse.specs.Rows.{rows_short}
use Rattle.rows_kept.specs.Statements.{All, no_one, each}
use Rattle.model_file.specs.Format.{Got, refused, got, Parser, and_then, refuse, many, byte, number, float, optional, count, code, rules}
use Rattle.model_file.specs.Format.{settings, values, variable, side, head, term, row, rows, end, whole, refusal, decoded, decode}

-- ---- the reader: each parser gets something, or refuses by a number that the format has
pub data Numbered {A : Type 0} : Got A → Type 0 where
  refuses : {n : ℕ} → (11 ≤ n) × (n ≤ 14) → Numbered (refused n)
  gets : {a : A} {s : List ℕ} → Numbered (got a s)

abbrev Numbers : {A : Type 0} → Parser A → Type 0
Numbers p = (s : List ℕ) → Numbered (p s)

and_then_lem : {A B : Type 0} {g : Got A} {f : A → Parser B} → Numbered g → ((a : A) → Numbers (f a)) → Numbered (and_then g f)
unfolding and_then
and_then_lem (refuses h) k = refuses h
and_then_lem (gets {a} {s}) k = k a s

refuse_numbers : (n : ℕ) (b : Bool) → (11 ≤ n) × (n ≤ 14) → Numbers (refuse n b)
unfolding refuse
refuse_numbers n true h s = refuses h
refuse_numbers n false h s = gets

many_numbers : {A : Type 0} (p : Parser A) (n : ℕ) → Numbers p → Numbers (many p n)
unfolding many
many_numbers p zero h s = gets
many_numbers p (suc n) h s = and_then_lem (h s) (λ x s. and_then_lem (many_numbers p n h s) (λ xs s. gets))

byte_numbers : Numbers byte
unfolding byte
byte_numbers [] = refuses {n = 11} (omega arith)
byte_numbers (b ∷ s) = gets

number_numbers : (n : ℕ) → Numbers (number n)
unfolding number
number_numbers zero s = gets
number_numbers (suc n) s = and_then_lem (byte_numbers s) (λ b s. and_then_lem (number_numbers n s) (λ v s. gets))

float_numbers : Numbers float
unfolding float
float_numbers s = and_then_lem (number_numbers 8 s) (λ b s. gets)

optional_numbers : (b : Bool) (x : Float) → Numbers (optional b x)
unfolding optional
optional_numbers true x s = float_numbers s
optional_numbers false x s = gets

count_numbers : Numbers count
unfolding count
count_numbers s = and_then_lem (number_numbers 2 s) (λ n s. and_then_lem (refuse_numbers 14 _ (omega arith) s) (λ u s. gets))

code_numbers : Numbers code
unfolding code
code_numbers s = and_then_lem (byte_numbers s) (λ m s. and_then_lem (refuse_numbers 12 _ (omega arith) s) (λ u s. gets))

settings_numbers : Numbers settings
unfolding settings rules
settings_numbers s =
    and_then_lem (count_numbers s) (λ n s. and_then_lem (count_numbers s)
    (λ m s. and_then_lem (float_numbers s) (λ x s. and_then_lem (float_numbers s) (λ y s. and_then_lem (code_numbers s) (λ c s. gets)))))

variable_numbers : Numbers variable
unfolding variable values
variable_numbers s =
    and_then_lem (byte_numbers s) (λ m s. and_then_lem (refuse_numbers 12 _ (omega arith) s) (λ u s. and_then_lem (refuse_numbers 12 _ (omega arith) s)
    (λ u s. and_then_lem (optional_numbers _ _ s) (λ x s. and_then_lem (optional_numbers _ _ s) (λ y s. and_then_lem (optional_numbers _ _ s) (λ z s. gets))))))

head_numbers : (t : ℕ) → Numbers (head t)
unfolding head side
head_numbers t s =
    and_then_lem (byte_numbers s) (λ m s. and_then_lem (refuse_numbers 12 _ (omega arith) s) (λ u s. and_then_lem (refuse_numbers 12 _ (omega arith) s)
    (λ u s. and_then_lem (optional_numbers _ _ s) (λ x s. and_then_lem (number_numbers 2 s) (λ n s. and_then_lem (refuse_numbers 14 _ (omega arith) s) (λ u s. gets))))))

term_numbers : Numbers term
unfolding term
term_numbers s = and_then_lem (number_numbers 2 s) (λ i s. and_then_lem (float_numbers s) (λ a s. gets))

row_numbers : (t : ℕ) → Numbers (row t)
unfolding row
row_numbers t s = and_then_lem (head_numbers t s) (λ h s. and_then_lem (many_numbers term h.count term_numbers s) (λ ts s. gets))

rows_numbers : (n t : ℕ) → Numbers (rows n t)
unfolding rows
rows_numbers zero t s = gets
rows_numbers (suc n) t s = and_then_lem (row_numbers t s) (λ r s. and_then_lem (rows_numbers n _ s) (λ rs s. gets))

end_numbers : Numbers end
unfolding end
end_numbers [] = gets
end_numbers (b ∷ s) = refuses {n = 13} (omega arith)

whole_numbers : Numbers whole
unfolding whole
whole_numbers s =
    and_then_lem (settings_numbers s) (λ h s. and_then_lem (many_numbers variable h.vars variable_numbers s)
    (λ vs s. and_then_lem (rows_numbers h.rows 0 s) (λ rs s. and_then_lem (end_numbers s) (λ u s. gets))))

decoded_numbers_lem : {n : ℕ} (g : Got _) → Numbered g → decoded g ≡ refusal n → (11 ≤ n) × (n ≤ 14)
unfolding decoded
decoded_numbers_lem {n} (refused m) (refuses h) e = let z : m ≡ n = cc in omega arith
decoded_numbers_lem (got f s) h e = absurd (let z : ◌≡◌ {A = ℕ} 0 1 = cc in omega arith)

pub reader_numbers : (s : List ℕ) {n : ℕ} → decode s ≡ refusal n → (11 ≤ n) × (n ≤ 14)
unfolding decode
reader_numbers s e = decoded_numbers_lem (whole s) (whole_numbers s) e

-- ---- the table: where each case that applies has a number up to k, so has the earliest
first_or : (k m : ℕ) {n : ℕ} (b : Bool) {later : Option ℕ} → (b ≡ true → m ≤ k) → (later ≡ some n → n ≤ k) → choose b (some m) later ≡ some n → n ≤ k
unfolding choose
first_or k m {n} true h l e = omega (arith, some-injective m n e, h refl)
first_or k m false h l e = l e

earliest_numbers : (k : ℕ) {cs : List (ℕ × Bool)} {n : ℕ} → All (λ (c : ℕ × Bool). c.1 ≡ true → c.0 ≤ k) cs → earliest cs ≡ some n → n ≤ k
unfolding earliest
earliest_numbers k {n = n} no_one e = absurd (none-ne-some n e)
earliest_numbers k (each {x = c} h l) e = first_or k c.0 c.1 h (earliest_numbers k l) e

pub table_numbers : (M : Model) (L : Lent) {n : ℕ} → call.refusal M L ≡ some n → n ≤ 18
unfolding call.refusal
table_numbers M L e =
    earliest_numbers 18
    (each (λ q. omega arith) (each (λ q. omega arith) (each (λ q. omega arith) (each (λ q. omega arith) (each (λ q. omega arith) (each (λ q. omega arith)
    (each (λ q. omega arith) (each (λ q. omega arith) (each (λ q. omega arith) (each (λ q. omega arith) (each (λ q. omega arith) no_one)))))))))))
    e

-- the earliest case is this one, or it does not apply and the earliest is a later one
this_or : {P : Type 0} (m : ℕ) {n : ℕ} (b : Bool) (cs : List (ℕ × Bool)) → (b ≡ true → m ≡ n → P) → (b ≡ false → earliest cs ≡ some n → P)
    → earliest ((m, b) ∷ cs) ≡ some n → P
unfolding earliest choose
this_or m {n} true cs now later e = now refl (some-injective m n e)
this_or m false cs now later e = later refl e

-- at most 256 variables and room enough: no row is too long, since its indices rise, and the numbers go up to 9
pub small_numbers : (M : Model) (L : Lent) {n : ℕ} → length M.obj ≤ 256 → call.too_short M L ≡ false → call.refusal M L ≡ some n → n ≤ 9
unfolding call.refusal
small_numbers M L {n} v l e =
    this_or 1 (call.lengths_disagree M) _ (λ q i. omega (arith, i)) (λ q.
    this_or 2 (call.too_large M) _ (λ q i. omega (arith, i)) (λ q.
    this_or 3 (call.starts_wrong M) _ (λ q i. omega (arith, i)) (λ starts.
    this_or 4 (call.indices_wrong M) _ (λ q i. omega (arith, i)) (λ indices.
    this_or 18 (call.rows_long M) _ (λ q i. absurd (true≢false (sym q ∙ short starts indices))) (λ q.
    earliest_numbers 9
    (each (λ q. omega arith) (each (λ q. omega arith) (each (λ q. omega arith) (each (λ q. omega arith) (each (λ q. omega arith)
    (each (λ q. absurd (true≢false (sym q ∙ l))) no_one)))))))))))
    e
  where
    short : call.starts_wrong M ≡ false → call.indices_wrong M ≡ false → call.rows_long M ≡ false
    short s i = rows_short M s i v
