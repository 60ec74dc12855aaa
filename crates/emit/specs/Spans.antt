-- The spans of emitted rows, and what the writers of spans and terms ask of the slices.
use Rattle.std.specs.Prelude.{ℕ, zero, suc, ◌+◌, ◌≤◌, ◌<◌, ◌≡◌, refl, Bool, true, false, List, length, get_or}
use Rattle.std.proofs.Common.{arith, add-one, ap, ◌∙◌}
use Rattle.std.proofs.Math.Path.{sym}
use Rattle.floats.specs.Num.{choose}
use Rattle.space.specs.declared.Context.{Context}
use Rattle.space.specs.Store.{Numbers}
use Rattle.view.specs.Inv.{Below}
use Rattle.view.specs.Lists.{yes, no, either}
use Rattle.readers.specs.Coeffs.{place_of}
use Rattle.emit.specs.Fates.{is_rewritten, rewritten_at}

-- how many terms row r has at work, the folded ones with them
abbrev pub count_at : Numbers → ℕ → ℕ
count_at n r = get_or n.len r 0 + get_or n.folded r 0

-- how many the rewritten rows below n have
unfoldable pub terms_to : Numbers → ℕ → ℕ
terms_to n zero = 0
terms_to n (suc r) = choose (rewritten_at n.fate r) (terms_to n r + count_at n r) (terms_to n r)

unfoldable pub start_at : Numbers → List ℕ → ℕ → ℕ
start_at n ss r = choose (rewritten_at n.fate r) (terms_to n r) (get_or ss r 0)

unfoldable pub end_at : Numbers → List ℕ → ℕ → ℕ
end_at n ss r = choose (rewritten_at n.fate r) (terms_to n (suc r)) (get_or ss (r + 1) 0)

-- spans follow each other, and those of rewritten rows hold their terms
pub record Spanned (s : Context) (ss : List ℕ) (n : Numbers) : Type 0 where
  pub long : s.rows < length ss
  pub rise : (r : ℕ) → r < s.rows → get_or ss r 0 ≤ get_or ss (r + 1) 0
  pub last : (r : ℕ) → r < s.rows → get_or ss (r + 1) 0 ≤ s.terms
  pub fits : (r : ℕ) → r < s.rows → rewritten_at n.fate r ≡ true → get_or ss r 0 + count_at n r ≤ get_or ss (r + 1) 0

-- the variables of the rows as written, and of the rewritten ones at work
pub record Indexed (s : Context) (ss is : List ℕ) (n : Numbers) : Type 0 where
  pub long : s.terms ≤ length is
  pub below : Below s.vars is
  pub vars : (r k : ℕ) → r < s.rows → rewritten_at n.fate r ≡ true → k < count_at n r
      → get_or n.vars (place_of (get_or ss r 0) (get_or ss (r + 1) 0) (get_or n.len r 0) k) 0 < s.vars

-- the terms before row r are no more than where its span starts
pub terms_before : {s : Context} {ss : List ℕ} {n : Numbers} → Spanned s ss n → (r : ℕ) → r ≤ s.rows → terms_to n r ≤ get_or ss r 0
unfolding terms_to
terms_before h zero p = omega arith
terms_before {ss = ss} {n} h (suc r) p =
    let z = terms_before h r (omega (arith, p)) in
    let e : get_or ss (r + 1) 0 ≡ get_or ss (suc r) 0 = ap (λ (k : ℕ). get_or ss k 0) (add-one r) in
    either (λ (k : ℕ). k ≤ get_or ss (suc r) 0) (rewritten_at n.fate r)
    (λ t. let y = h.fits r (omega (arith, p)) t in omega (arith, z, e, y))
    (λ t. let y = h.rise r (omega (arith, p)) in omega (arith, z, e, y))

module _ (n : Numbers) (r : ℕ) {c : ℕ} {k : Bool} (e : c ≡ get_or n.fate r 0) (f : k ≡ is_rewritten c) where
  fate_is : {b : Bool} → k ≡ b → rewritten_at n.fate r ≡ b
  fate_is t = sym (ap is_rewritten e) ∙ sym f ∙ t

-- ---- terms_with and span_of
module _ (n : Numbers) (r : ℕ) where
  module _ {x l d : ℕ} (b : x ≡ terms_to n r) (el : l ≡ get_or n.len r 0) (ed : d ≡ get_or n.folded r 0) (t : rewritten_at n.fate r ≡ true) where
    pub with_room : {s : Context} {ss : List ℕ} → Spanned s ss n → r < s.rows → x + (l + d) ≤ s.terms
    with_room h p = omega (arith, b, el, ed, terms_before h r (omega (arith, p)), h.fits r p t, h.last r p)

    pub with_yes : x + (l + d) ≡ terms_to n (suc r)
    unfolding terms_to
    with_yes = rw (b, el, ed) (sym (yes _ _ t))

  pub with_no : {x : ℕ} → x ≡ terms_to n r → rewritten_at n.fate r ≡ false → x ≡ terms_to n (suc r)
  unfolding terms_to
  with_no b t = b ∙ sym (no _ _ t)

  module _ (ss : List ℕ) where
    pub from_yes : {x : ℕ} → x ≡ terms_to n r → rewritten_at n.fate r ≡ true → x ≡ start_at n ss r
    unfolding start_at
    from_yes b t = b ∙ sym (yes _ _ t)

    pub from_no : rewritten_at n.fate r ≡ false → get_or ss r 0 ≡ start_at n ss r
    unfolding start_at
    from_no t = sym (no _ _ t)

    pub upto_yes : {x : ℕ} → x ≡ terms_to n (suc r) → rewritten_at n.fate r ≡ true → x ≡ end_at n ss r
    unfolding end_at
    upto_yes b t = b ∙ sym (yes _ _ t)

    pub upto_no : rewritten_at n.fate r ≡ false → get_or ss (r + 1) 0 ≡ end_at n ss r
    unfolding end_at
    upto_no t = sym (no _ _ t)

-- ---- write_spans: before the first row, and before the row after r
pub none_before : (n : Numbers) → 0 ≡ terms_to n 0
unfolding terms_to
none_before n = refl

pub before_next : (n : Numbers) (r : ℕ) {x : ℕ} → x ≡ terms_to n (suc r) → x ≡ terms_to n (r + 1)
before_next n r e = e ∙ ap (terms_to n) (sym (add-one r))
