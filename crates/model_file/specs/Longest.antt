-- No file longer than 9,749 bytes is accepted, and what stands after the first 9,750 bytes does not change the refusal: a program may read that many and no more.
use Rattle.std.specs.Prelude.{ℕ, zero, suc, ◌+◌, ◌-◌, ◌*◌, ◌≤◌, refl, List, [], ◌∷◌, ◌++◌, Bool, true, false, length, take, drop, ltb, Float}
use Rattle.std.proofs.Math.Path.{◌≡◌, ap}
use Rattle.std.proofs.Common.{sym, ◌∙◌, arith, ltb-false, length-take, take-append-drop, take_all}
use Rattle.std.proofs.Math.Decide.{dec_le}
use Rattle.model_file.specs.declared.RowHead.{RowHead}
use Rattle.model_file.specs.declared.Settings.{Settings}
use Rattle.model_file.specs.Format.{Got, refused, got, Parser, and_then, refuse, byte, number, float, optional, count, code, rules, settings, values}
use Rattle.model_file.specs.Format.{variable, side, head, term, many, row, Row, rows, Lists, end, whole, refusal, decoded, decode}
use Rattle.model_file.specs.Places.{then_got, then_refused}

-- t after what is left
unfoldable pub extend : {A : Type 0} → List ℕ → Got A → Got A
extend t (refused n) = refused n
extend t (got a r) = got a (r ++ t)

-- at s, t after it changes nothing; and a value a takes at most c a bytes, and has Q
pub record Fine {A : Type 0} (p : Parser A) (s t : List ℕ) (c : A → ℕ) (Q : A → Type 0) : Type 0 where
  pub same : p (s ++ t) ≡ extend t (p s)
  pub took : (a : A) (r : List ℕ) → p s ≡ got a r → (length s ≤ length r + c a) × Q a

abbrev Any : {A : Type 0} → A → Type 0
Any a = Unit {0}

-- one after the other
module _ {A B : Type 0} (p : Parser A) (f : A → Parser B) (s t : List ℕ) {c : A → ℕ} {Q : A → Type 0} (c' : A → B → ℕ) {Q' : B → Type 0} (c'' : B → ℕ) where
  then_same : Fine p s t c Q → ((a : A) (r : List ℕ) → length s ≤ length r + c a → Q a → Fine (f a) r t (c' a) Q') → (g : Got A) → p s ≡ g → and_then (p (s ++ t)) f ≡ extend t (and_then g f)
  unfolding and_then extend
  then_same u v (refused n) e = then_refused f (u.same ∙ ap (extend t) e)
  then_same u v (got a r) e = let w = u.took a r e in then_got f (u.same ∙ ap (extend t) e) ∙ (v a r w.0 w.1).same

  then_took : Fine p s t c Q → ((a : A) (r : List ℕ) → length s ≤ length r + c a → Q a → Fine (f a) r t (c' a) Q')
      → ((a : A) (b : B) → Q a → Q' b → c a + c' a b ≤ c'' b) → (g : Got A) → p s ≡ g → (b : B) (r : List ℕ) → and_then g f ≡ got b r
      → (length s ≤ length r + c'' b) × Q' b
  unfolding and_then
  then_took u v h (refused n) e b r q = absurd (let z : ◌≡◌ {A = ℕ} 0 1 = cc in omega arith)
  then_took u v h (got a x) e b r q =
      let w = u.took a x e in
      let y = (v a x w.0 w.1).took b r q in
      (omega (arith, w.0, y.0, h a b w.1 y.1), y.1)

  fine_then : Fine p s t c Q → ((a : A) (r : List ℕ) → length s ≤ length r + c a → Q a → Fine (f a) r t (c' a) Q')
      → ((a : A) (b : B) → Q a → Q' b → c a + c' a b ≤ c'' b) → Fine (λ (x : List ℕ). and_then (p x) f) s t c'' Q'
  fine_then u v h = record { same = then_same u v (p s) refl ∙ ap (λ (g : Got A). extend t (and_then g f)) refl; took = λ b r q. then_took u v h (p s) refl b r q }

fine_done : {A : Type 0} (a : A) (s t : List ℕ) (Q : A → Type 0) → Q a → Fine (got a) s t (λ _. 0) Q
unfolding extend
fine_done a s t Q q = record { same = refl; took = λ b r e. let z : s ≡ r = cc in let y : a ≡ b = cc in (omega (arith, ap length z), rw y at q) }

-- with costs that do not depend on the values
module _ {A B : Type 0} (p : Parser A) (f : A → Parser B) (s t : List ℕ) {Q : A → Type 0} {Q' : B → Type 0} (m n k : ℕ) (h : m + n ≤ k) where
  fixed_then : Fine p s t (λ _. m) Q → ((a : A) (r : List ℕ) → length s ≤ length r + m → Q a → Fine (f a) r t (λ _. n) Q') → Fine (λ (x : List ℕ). and_then (p x) f) s t (λ _. k) Q'
  fixed_then u v = fine_then p f s t (λ _ _. n) (λ _. k) u v (λ a b q q'. h)

-- ---- bytes, numbers, floats
byte_fine : (s t : List ℕ) → 1 ≤ length s → Fine byte s t (λ _. 1) Any
unfolding byte extend
byte_fine [] t h = absurd (omega arith)
byte_fine (b ∷ s) t h = record { same = refl; took = λ a r e. let z : s ≡ r = cc in (omega (arith, ap length z), tt) }

refuse_fine : (n : ℕ) (b : Bool) (s t : List ℕ) → Fine (refuse n b) s t (λ _. 0) (λ _. b ≡ false)
unfolding refuse extend
refuse_fine n true s t = record { same = refl; took = λ a r e. absurd (let z : ◌≡◌ {A = ℕ} 0 1 = cc in omega arith) }
refuse_fine n false s t = record { same = refl; took = λ a r e. let z : s ≡ r = cc in (omega (arith, ap length z), refl) }

number_fine : (n : ℕ) (s t : List ℕ) → n ≤ length s → Fine (number n) s t (λ _. n) Any
unfolding number
number_fine zero s t h = fine_done 0 s t Any tt
number_fine (suc n) s t h =
    fixed_then byte _ s t 1 n (suc n) (omega arith) (byte_fine s t (omega arith)) λ b r p q.
    fixed_then (number n) _ r t n 0 n (omega arith) (number_fine n r t (omega arith)) λ v x _ _.
    fine_done (b + 256 * v) x t Any tt

float_fine : (s t : List ℕ) → 8 ≤ length s → Fine float s t (λ _. 8) Any
unfolding float
float_fine s t h = fixed_then (number 8) _ s t 8 0 8 (omega arith) (number_fine 8 s t h) λ b r _ _. fine_done _ r t Any tt

optional_fine : (b : Bool) (d : Float) (s t : List ℕ) → 8 ≤ length s → Fine (optional b d) s t (λ _. 8) Any
unfolding optional extend
optional_fine true d s t h = float_fine s t h
optional_fine false d s t h = record { same = refl; took = λ a r e. let z : s ≡ r = cc in (omega (arith, ap length z), tt) }

-- ---- the settings
count_fine : (s t : List ℕ) → 2 ≤ length s → Fine count s t (λ _. 2) (λ n. n ≤ 128)
unfolding count
count_fine s t h =
    fixed_then (number 2) _ s t 2 0 2 (omega arith) (number_fine 2 s t h) λ n r _ _.
    fixed_then (refuse 14 (ltb 128 n)) _ r t 0 0 0 (omega arith) (refuse_fine 14 (ltb 128 n) r t) λ _ x _ e.
    fine_done n x t (λ n. n ≤ 128) (ltb-false 128 n e)

code_fine : (s t : List ℕ) → 1 ≤ length s → Fine code s t (λ _. 1) Any
unfolding code
code_fine s t h =
    fixed_then byte _ s t 1 0 1 (omega arith) (byte_fine s t h) λ m r _ _.
    fixed_then (refuse 12 (ltb 2 m)) _ r t 0 0 0 (omega arith) (refuse_fine 12 (ltb 2 m) r t) λ _ x _ _.
    fine_done m x t Any tt

abbrev Few : Settings → Type 0
Few h = (h.vars ≤ 128) × (h.rows ≤ 128)

settings_fine : (s t : List ℕ) → 21 ≤ length s → Fine settings s t (λ _. 21) Few
unfolding settings rules
settings_fine s t h =
    fixed_then count _ s t 2 19 21 (omega arith) (count_fine s t (omega arith)) λ n r₁ l₁ few_vars_lem.
    fixed_then count _ r₁ t 2 17 19 (omega arith) (count_fine r₁ t (omega arith)) λ m r₂ l₂ few_rows_lem.
    fixed_then float _ r₂ t 8 9 17 (omega arith) (float_fine r₂ t (omega arith)) λ x r₃ l₃ _.
    fixed_then float _ r₃ t 8 1 9 (omega arith) (float_fine r₃ t (omega arith)) λ y r₄ l₄ _.
    fixed_then code _ r₄ t 1 0 1 (omega arith) (code_fine r₄ t (omega arith)) λ z r₅ l₅ _.
    fine_done _ r₅ t Few (few_vars_lem, few_rows_lem)

-- ---- variables
variable_fine : (s t : List ℕ) → 25 ≤ length s → Fine variable s t (λ _. 25) Any
unfolding variable values
variable_fine s t h =
    fixed_then byte _ s t 1 24 25 (omega arith) (byte_fine s t (omega arith)) λ m r₁ l₁ _.
    fixed_then (refuse 12 (ltb 31 m)) _ r₁ t 0 24 24 (omega arith) (refuse_fine 12 _ r₁ t) λ _ r₂ l₂ _.
    fixed_then (refuse 12 _) _ r₂ t 0 24 24 (omega arith) (refuse_fine 12 _ r₂ t) λ _ r₃ l₃ _.
    fixed_then (optional _ _) _ r₃ t 8 16 24 (omega arith) (optional_fine _ _ r₃ t (omega arith)) λ x r₄ l₄ _.
    fixed_then (optional _ _) _ r₄ t 8 8 16 (omega arith) (optional_fine _ _ r₄ t (omega arith)) λ y r₅ l₅ _.
    fixed_then (optional _ _) _ r₅ t 8 0 8 (omega arith) (optional_fine _ _ r₅ t (omega arith)) λ z r₆ l₆ _.
    fine_done _ r₆ t Any tt

many_fine : {A : Type 0} (p : Parser A) (k : ℕ) → ((s t : List ℕ) → k ≤ length s → Fine p s t (λ _. k) Any) → (n : ℕ) (s t : List ℕ) → n * k ≤ length s → Fine (many p n) s t (λ _. n * k) Any
unfolding many
many_fine p k h zero s t l = record { same = (fine_done [] s t Any tt).same; took = λ a r e. (omega (arith, (fine_done [] s t Any tt).took a r e), tt) }
many_fine p k h (suc n) s t l =
    fixed_then p _ s t k (n * k) (suc n * k) (omega arith) (h s t (omega arith)) λ x r m _.
    fixed_then (many p n) _ r t (n * k) 0 (n * k) (omega arith) (many_fine p k h n r t (omega arith)) λ xs y _ _.
    fine_done (x ∷ xs) y t Any tt

weaken : {A : Type 0} {p : Parser A} {s t : List ℕ} {c c' : A → ℕ} {Q Q' : A → Type 0} → Fine p s t c Q → ((a : A) → Q a → (c a ≤ c' a) × Q' a) → Fine p s t c' Q'
weaken u h = record { same = u.same; took = λ a r e. let w = u.took a r e in let y = h a w.1 in (omega (arith, w.0, y.0), y.1) }

-- ---- rows, n terms before them
head_fine : (n : ℕ) (s t : List ℕ) → 11 ≤ length s → Fine (head n) s t (λ _. 11) (λ h. n + h.count ≤ 512)
unfolding head side
head_fine n s t l =
    fixed_then byte _ s t 1 10 11 (omega arith) (byte_fine s t (omega arith)) λ m r₁ l₁ _.
    fixed_then (refuse 12 (ltb 7 m)) _ r₁ t 0 10 10 (omega arith) (refuse_fine 12 _ r₁ t) λ _ r₂ l₂ _.
    fixed_then (refuse 12 _) _ r₂ t 0 10 10 (omega arith) (refuse_fine 12 _ r₂ t) λ _ r₃ l₃ _.
    fixed_then (optional _ _) _ r₃ t 8 2 10 (omega arith) (optional_fine _ _ r₃ t (omega arith)) λ b r₄ l₄ _.
    fixed_then (number 2) _ r₄ t 2 0 2 (omega arith) (number_fine 2 r₄ t (omega arith)) λ k r₅ l₅ _.
    fixed_then (refuse 14 (ltb 512 (n + k))) _ r₅ t 0 0 0 (omega arith) (refuse_fine 14 _ r₅ t) λ _ r₆ l₆ e.
    fine_done _ r₆ t (λ h. n + h.count ≤ 512) (ltb-false 512 (n + k) e)

term_fine : (s t : List ℕ) → 10 ≤ length s → Fine term s t (λ _. 10) Any
unfolding term
term_fine s t l =
    fixed_then (number 2) _ s t 2 8 10 (omega arith) (number_fine 2 s t (omega arith)) λ i r₁ l₁ _.
    fixed_then float _ r₁ t 8 0 8 (omega arith) (float_fine r₁ t (omega arith)) λ a r₂ l₂ _.
    fine_done _ r₂ t Any tt

row_fine : (n : ℕ) (s t : List ℕ) → n ≤ 512 → 11 + 10 * (512 - n) ≤ length s → Fine (row n) s t (λ x. 11 + 10 * x.head.count) (λ x. n + x.head.count ≤ 512)
unfolding row
row_fine n s t few l =
    fine_then (head n) _ s t (λ _ x. 10 * x.head.count) (λ x. 11 + 10 * x.head.count) (head_fine n s t (omega arith))
    (λ h r l₁ q.
    weaken
    (fixed_then (many term h.count) _ r t {Q' = λ (x : Row). x.head ≡ h} (h.count * 10) 0 (h.count * 10) (omega arith) (many_fine term 10 term_fine h.count r t (omega arith)) λ ts r₂ l₂ _.
    fine_done (record { head = h; terms = ts }) r₂ t (λ (x : Row). x.head ≡ h) refl)
    (λ x e. let z : x.head.count ≡ h.count = ap (λ (y : RowHead). y.count) e in (omega arith, omega arith)))
    (λ h x q q'. omega arith)

rows_fine : (k n : ℕ) (s t : List ℕ) → n ≤ 512 → 11 * k + 10 * (512 - n) ≤ length s → Fine (rows k n) s t (λ _. 11 * k + 10 * (512 - n)) Any
unfolding rows
rows_fine zero n s t few l = weaken (fine_done [] s t Any tt) (λ a q. (omega arith, tt))
rows_fine (suc k) n s t few l =
    fine_then (row n) _ s t (λ x _. 11 * k + 10 * (512 - (n + x.head.count))) (λ _. 11 * suc k + 10 * (512 - n)) (row_fine n s t few (omega arith))
    (λ x r l₁ q.
    fixed_then (rows k (n + x.head.count)) _ r t (11 * k + 10 * (512 - (n + x.head.count))) 0 (11 * k + 10 * (512 - (n + x.head.count))) (omega arith)
    (rows_fine k (n + x.head.count) r t q (omega arith)) λ rs r₂ l₂ _.
    fine_done (x ∷ rs) r₂ t Any tt)
    (λ x rs q _. omega arith)

-- ---- the whole file
end_fine : (s t : List ℕ) → 1 ≤ length s → Fine end s t (λ _. 0) (λ _. ⊥)
unfolding end extend
end_fine [] t l = absurd (omega arith)
end_fine (b ∷ s) t l = record { same = refl; took = λ a r e. absurd (let z : ◌≡◌ {A = ℕ} 0 1 = cc in omega arith) }

whole_fine : (s t : List ℕ) → 9750 ≤ length s → Fine whole s t (λ _. 9749) (λ _. ⊥)
unfolding whole
whole_fine s t l =
    fixed_then settings _ s t 21 9728 9749 (omega arith) (settings_fine s t (omega arith)) λ h r₁ l₁ few.
    fixed_then (many variable h.vars) _ r₁ t 3200 6528 9728 (omega arith)
    (weaken (many_fine variable 25 variable_fine h.vars r₁ t (omega (arith, few.0))) (λ _ _. (omega (arith, few.0), tt {0}))) λ vs r₂ l₂ _.
    fixed_then (rows h.rows 0) _ r₂ t 6528 0 6528 (omega arith) (weaken (rows_fine h.rows 0 r₂ t (omega arith) (omega (arith, few.1))) (λ _ _. (omega (arith, few.1), tt {0}))) λ rs r₃ l₃ _.
    fixed_then end _ r₃ t 0 0 0 (omega arith) (end_fine r₃ t (omega arith)) λ _ r₄ l₄ never.
    absurd never

decoded_extend : (t : List ℕ) (g : Got Lists) → decoded (extend t g) ≡ decoded g
unfolding decoded extend
decoded_extend t (refused n) = refl
decoded_extend t (got f r) = refl

-- what stands after 9,750 bytes does not matter
pub cut : (s t : List ℕ) → 9750 ≤ length s → decode (s ++ t) ≡ decode s
unfolding decode
cut s t l = ap decoded (whole_fine s t l).same ∙ decoded_extend t (whole s)

cut_at : (n : ℕ) (s : List ℕ) → 9750 ≤ n → Dec (length s ≤ n) → decode (take n s) ≡ decode s
cut_at n s h (yes l) = ap decode (take_all n s l)
cut_at n s h (no l) = sym (cut (take n s) (drop n s) (omega (arith, length-take n s))) ∙ ap decode (take-append-drop n s)

pub first_bytes : (n : ℕ) (s : List ℕ) → 9750 ≤ n → decode (take n s) ≡ decode s
first_bytes n s h = cut_at n s h (dec_le (length s) n)

refusal_of : (s : List ℕ) (g : Got Lists) → ((f : Lists) (r : List ℕ) → g ≡ got f r → ⊥) → (n : ℕ) × (decoded g ≡ refusal n)
unfolding decoded
refusal_of s (refused n) h = (n, refl)
refusal_of s (got f r) h = absurd (h f r refl)

-- no longer file is accepted
pub too_long : (s : List ℕ) → 9750 ≤ length s → (n : ℕ) × (decode s ≡ refusal n)
unfolding decode
too_long s l = refusal_of s (whole s) (λ f r e. ((whole_fine s [] l).took f r e).1)
