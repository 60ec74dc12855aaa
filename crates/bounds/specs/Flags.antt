-- Dual fixing's flags stand in blocks of their own, which requeueing and fixing leave as they are.
use Rattle.std.specs.Prelude.{ℕ, ◌≡◌, refl}
use Rattle.std.proofs.Common.{ap, ◌∙◌}
use Rattle.space.specs.Store.{Numbers, put_dirty, put_coeff_dirty, put_queue, put_queued, put_fixed}

pub record FlagsKept (n n' : Numbers) : Type 0 where
  pub dec : n'.bad_dec ≡ n.bad_dec
  pub inc : n'.bad_inc ≡ n.bad_inc

pub flags_refl : {n : Numbers} → FlagsKept n n
flags_refl = record { dec = refl; inc = refl }

pub flags_then : {n n₁ n₂ : Numbers} → FlagsKept n n₁ → FlagsKept n₁ n₂ → FlagsKept n n₂
flags_then a b = record { dec = b.dec ∙ a.dec; inc = b.inc ∙ a.inc }

pub flags_old : (r : ℕ) {n n₁ : Numbers} → n₁ ≡ put_coeff_dirty r 1 n → FlagsKept n n₁
flags_old r e = record { dec = ap (λ (z : Numbers). z.bad_dec) e; inc = ap (λ (z : Numbers). z.bad_inc) e }

pub flags_queued : (r q x : ℕ) {n n₁ n₂ n₃ : Numbers} → n₁ ≡ put_dirty r 1 n → n₂ ≡ put_queue q r n₁ → n₃ ≡ put_queued 0 x n₂ → FlagsKept n n₃
flags_queued r q x e₁ e₂ e₃ =
    let e = e₃ ∙ ap (put_queued 0 x) (e₂ ∙ ap (put_queue q r) e₁) in
    record { dec = ap (λ (z : Numbers). z.bad_dec) e; inc = ap (λ (z : Numbers). z.bad_inc) e }

pub flags_new : (r q x : ℕ) {n n₁ n₂ n₃ n₄ : Numbers} → n₁ ≡ put_coeff_dirty r 1 n → n₂ ≡ put_dirty r 1 n₁ → n₃ ≡ put_queue q r n₂ → n₄ ≡ put_queued 0 x n₃ → FlagsKept n n₄
flags_new r q x e₁ e₂ e₃ e₄ =
    let e = e₄ ∙ ap (put_queued 0 x) (e₃ ∙ ap (put_queue q r) (e₂ ∙ ap (put_dirty r 1) e₁)) in
    record { dec = ap (λ (z : Numbers). z.bad_dec) e; inc = ap (λ (z : Numbers). z.bad_inc) e }

pub flags_fixed : (x : ℕ) {n n₁ n₂ : Numbers} → n₁ ≡ put_fixed 0 x n → FlagsKept n₁ n₂ → FlagsKept n n₂
flags_fixed x e k = flags_then (record { dec = ap (λ (z : Numbers). z.bad_dec) e; inc = ap (λ (z : Numbers). z.bad_inc) e }) k
