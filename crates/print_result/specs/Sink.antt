-- What a text makes of where it goes: of a count, which stops at the largest number, and of a lent buffer that is written from a place on.
use Rattle.std.specs.Prelude.{ℕ, suc, ◌+◌, ◌≤◌, ◌<◌, min, ◌≡◌, refl, length, get_or, drop, set}
use Rattle.std.proofs.Common.{ap, sym, ◌∙◌, add-one, add-zero, arith, length-append, drop-cons}
use mathlib.Core.List.{List, [], ◌∷◌, ◌++◌}
use Rattle.std.proofs.lemmas.List.Edits.{sets}

-- the largest number
abbrev pub top : ℕ
top = 18446744073709551615

-- counting the text t takes n to m
pub record BytesCounted (t : List ℕ) (n m : ℕ) : Type 0 where
  pub is : n ≤ top → m ≡ min (n + length t) top

pub counted_none : (n : ℕ) → BytesCounted [] n n
counted_none n = record { is = λ h. omega arith }

pub counted_joined : {a b : List ℕ} {n m k : ℕ} → BytesCounted a n m → BytesCounted b m k → BytesCounted (a ++ b) n k
counted_joined {a} {b} {n} {m} {k} c d =
    record { is = λ h. let p = c.is h in let q = d.is (omega (arith, p)) in omega (arith, p, q, length-append a b) }

-- writing the text t, if there is room for it, takes the buffer l and the place i to m and j
pub record BytesFilled (t l : List ℕ) (i : ℕ) (m : List ℕ) (j : ℕ) : Type 0 where
  pub long : length m ≡ length l
  pub bytes : i + length t ≤ length l → m ≡ sets l i t
  pub place : i + length t ≤ length l → j ≡ i + length t

pub filled_none : (l : List ℕ) (i : ℕ) → BytesFilled [] l i l i
filled_none l i = record { long = refl; bytes = λ h. refl; place = λ h. omega arith }

sets_append : (l a b : List ℕ) (i : ℕ) → sets (sets l i a) (i + length a) b ≡ sets l i (a ++ b)
sets_append l [] b i = ap (λ (k : ℕ). sets l k b) (add-zero i)
sets_append l (x ∷ a) b i =
    let e : i + suc (length a) ≡ suc i + length a = omega arith in
    ap (λ (k : ℕ). sets (sets (set l i x) (suc i) a) k b) e ∙ sets_append (set l i x) a b (suc i)

pub filled_joined : {a b l m r : List ℕ} {i j k : ℕ} → BytesFilled a l i m j → BytesFilled b m j r k → BytesFilled (a ++ b) l i r k
filled_joined {a} {b} {l} {m} {r} {i} {j} {k} c d =
    record {
      long = d.long ∙ c.long;
      bytes = λ h.
          let n = length-append a b in
          let p = c.place (omega (arith, h, n)) in
          let q = c.bytes (omega (arith, h, n)) in
          let w = d.bytes (omega (arith, h, n, p, c.long)) in
          w ∙ ap (λ (x : ℕ). sets m x b) p ∙ ap (λ (x : List ℕ). sets x (i + length a) b) q ∙ sets_append l a b i;
      place = λ h.
          let n = length-append a b in
          let p = c.place (omega (arith, h, n)) in
          let w = d.place (omega (arith, h, n, p, c.long)) in
          omega (arith, w, p, n);
    }

pub drop_one : (t : List ℕ) (i : ℕ) → i < length t → drop i t ≡ (get_or t i 0 ∷ []) ++ drop (i + 1) t
drop_one t i h = drop-cons t i 0 h ∙ ap (λ (j : ℕ). get_or t i 0 ∷ drop j t) (sym (add-one i))
