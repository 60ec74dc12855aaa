-- A row's fate, and the number that stands for it in the slice.
use Prim.Native.Nat.{ℕ, zero, suc, ◌<◌}
use Rattle.std.proofs.Common.{arith, ◌∙◌}
use Rattle.std.specs.Prelude.{◌≡◌, Bool, List}
use Rattle.std.specs.Int.{from_bool}
use Rattle.std.proofs.Math.Path.{refl, ap, sym}
use Rattle.std.proofs.Math.Bool.{true, false}
use Rattle.std.proofs.Math.ListN.{get_or}
use borrow.Author.Tests.{ne_eqb, lt-ltb}
use Rattle.row_terms.specs.RowMark.{mark}
use Rattle.emit.specs.declared.fates.Fate.{Fate}
use Rattle.emit.specs.declared.fates.Fate.TheVariants.{Trivial, Written, Rewritten, Dropped}
use Rattle.emit.specs.Fates.{TRIVIAL, WRITTEN, REWRITTEN, DROPPED, is_kept, is_out, is_rewritten, kept_at, out_at, rewritten_at, mark_at}

abbrev pub fate_is : ℕ → Fate
fate_is zero = Trivial
fate_is (suc zero) = Written
fate_is (suc (suc zero)) = Rewritten
fate_is (suc (suc (suc n))) = Dropped

abbrev pub number_of : Fate → ℕ
number_of Trivial = TRIVIAL
number_of Written = WRITTEN
number_of Rewritten = REWRITTEN
number_of Dropped = DROPPED

abbrev pub keeps : Fate → Bool
keeps Trivial = false
keeps Written = false
keeps Rewritten = true
keeps Dropped = true

abbrev pub emits : Fate → Bool
emits Trivial = false
emits Written = true
emits Rewritten = true
emits Dropped = false

abbrev pub rewrites : Fate → Bool
rewrites Trivial = false
rewrites Written = false
rewrites Rewritten = true
rewrites Dropped = false

pub keeps_is : (n : ℕ) → keeps (fate_is n) ≡ is_kept n
unfolding is_kept
keeps_is zero = refl
keeps_is (suc zero) = refl
keeps_is (suc (suc zero)) = refl
keeps_is (suc (suc (suc n))) = sym (lt-ltb 1 (suc (suc (suc n))) (omega arith))

pub emits_is : (n : ℕ) → emits (fate_is n) ≡ is_out n
unfolding is_out
emits_is zero = refl
emits_is (suc zero) = refl
emits_is (suc (suc zero)) = refl
emits_is (suc (suc (suc n))) = rw (ne_eqb (suc (suc (suc n))) 1 (λ e. omega (arith, e)), ne_eqb (suc (suc (suc n))) 2 (λ e. omega (arith, e)))

pub rewrites_is : (n : ℕ) → rewrites (fate_is n) ≡ is_rewritten n
unfolding is_rewritten
rewrites_is zero = refl
rewrites_is (suc zero) = refl
rewrites_is (suc (suc zero)) = refl
rewrites_is (suc (suc (suc n))) = sym (ne_eqb (suc (suc (suc n))) 2 (λ e. omega (arith, e)))

-- the mark, as a number of whether it is rewritten
pub mark_from : {b c : Bool} {m : ℕ} → b ≡ c → m ≡ from_bool b → m ≡ mark c
unfolding mark
mark_from {b = true} e f = f ∙ ap mark e
mark_from {b = false} e f = f ∙ ap mark e

-- z is the fate of row r, where the slice has cs
pub record FateIs (cs : List ℕ) (r : ℕ) (z : Fate) : Type 0 where
  pub is : z ≡ fate_is (get_or cs r 0)

-- and k is read of it
module _ {cs : List ℕ} {r : ℕ} {z : Fate} (F : FateIs cs r z) where
  pub kept_now : {k b : Bool} → k ≡ keeps z → k ≡ b → kept_at cs r ≡ b
  kept_now f t = sym (keeps_is (get_or cs r 0)) ∙ ap keeps (sym F.is) ∙ sym f ∙ t

  pub out_now : {k b : Bool} → k ≡ emits z → k ≡ b → out_at cs r ≡ b
  out_now f t = sym (emits_is (get_or cs r 0)) ∙ ap emits (sym F.is) ∙ sym f ∙ t

  pub rewritten_now : {k b : Bool} → k ≡ rewrites z → k ≡ b → rewritten_at cs r ≡ b
  rewritten_now f t = sym (rewrites_is (get_or cs r 0)) ∙ ap rewrites (sym F.is) ∙ sym f ∙ t

  pub mark_now : {m : ℕ} → m ≡ mark (rewrites z) → m ≡ mark_at cs r
  mark_now f = f ∙ ap (λ (x : Fate). mark (rewrites x)) F.is ∙ ap mark (rewrites_is (get_or cs r 0))

-- of the rows below n, p is what a test T answers of their fates, and g what V gives of them
pub record WritesFates {A : Type 0} (T : Fate → Bool → Type 0) (V : ℕ → Fate → A → Type 0) (cs : List ℕ) (n : ℕ) (p : ℕ → Bool) (g : ℕ → A) : Type 0 where
  pub test : (r : ℕ) (z : Fate) (b : Bool) → r < n → FateIs cs r z → T z b → p r ≡ b
  pub value : (r : ℕ) (z : Fate) (x : A) → r < n → FateIs cs r z → V r z x → x ≡ g r
