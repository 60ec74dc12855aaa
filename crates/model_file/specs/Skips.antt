-- The pass that only checks: what it knows of a part that it passed, and that it finds what the definition says.
use Prim.Native.Nat.{ℕ, zero, suc, ◌+◌, ◌-◌, ◌≤◌, ◌<◌}
use Rattle.std.specs.Prelude.{◌≡◌, length, drop}
use Rattle.std.proofs.Math.Path.{refl, ap, sym}
use Rattle.std.proofs.Common.{◌∙◌, add-zero, arith, length-append, drop_of_length-le, drop-cons}
use mathlib.Core.List.{List, [], ◌∷◌}
use Rattle.std.proofs.lemmas.List.{length-map}
use Rattle.model_file.specs.declared.Variable.{Variable}
use Rattle.model_file.specs.declared.Term.{Term}
use Rattle.model_file.specs.declared.RowHead.{RowHead}
use Rattle.model_file.specs.declared.Settings.{Settings}
use Rattle.model_file.specs.Format.{Got, refused, got, Parser, and_then, many, settings, variable, term, head, row, Row, rows}
use Rattle.model_file.specs.Format.{all_terms, Lists, lists, end, whole, Decoded, refusal, file, decoded, decode}
use Rattle.model_file.specs.Places.{then_got, then_refused}
use Rattle.model_file.specs.Reading.{FileRead, header_of}

-- ---- a part that was passed
unfoldable pub map_got : {A B : Type 0} → (A → B) → Got A → Got B
map_got f (refused n) = refused n
map_got f (got a s) = got (f a) s

abbrev pub skipped : {A : Type 0} → Got A → Got (Unit {0})
skipped g = map_got (λ _. tt) g

-- how many terms there are after the rows, with t before them
unfoldable pub after : ℕ → List Row → ℕ
after t [] = t
after t (r ∷ rs) = after (t + r.head.count) rs

-- and after one row
abbrev pub upto : ℕ → Row → ℕ
upto t x = t + x.head.count

-- ---- one after the other
-- a part that was taken: its value, and what is left
pub record Taken {A B : Type 0} (g : Got A) (f : A → Parser B) (b : B) (r : List ℕ) : Type 0 where
  pub value : A
  pub rest : List ℕ
  pub is : g ≡ got value rest
  pub more : f value rest ≡ got b r

pub taken : {A B : Type 0} (g : Got A) (f : A → Parser B) (b : B) (r : List ℕ) → and_then g f ≡ got b r → Taken g f b r
unfolding and_then
taken (refused n) f b r e = absurd (let z : ◌≡◌ {A = ℕ} 0 1 = cc in omega arith)
taken (got a s) f b r e = record { value = a; rest = s; is = refl; more = e }

pub record Had {A : Type 0} (g : Got A) (r : List ℕ) : Type 0 where
  pub value : A
  pub is : g ≡ got value r

-- what was passed was there
pub had : {A B : Type 0} (h : A → B) (g : Got A) (b : B) (r : List ℕ) → map_got h g ≡ got b r → Had g r
unfolding map_got
had h (refused n) b r e = absurd (let z : ◌≡◌ {A = ℕ} 0 1 = cc in omega arith)
had h (got a s) b r e = record { value = a; is = ap (got a) (cc) }

pub had_not : {A B : Type 0} (h : A → B) (g : Got A) (n : ℕ) → map_got h g ≡ refused n → g ≡ refused n
unfolding map_got
had_not h (refused m) n e = ap refused (cc)
had_not h (got a s) n e = absurd (let z : ◌≡◌ {A = ℕ} 0 1 = cc in omega arith)

skip_cons : {A : Type 0} (x : A) (g : Got (List A)) → skipped (and_then g (λ xs. got (x ∷ xs))) ≡ skipped g
unfolding map_got and_then
skip_cons x (refused n) = refl
skip_cons x (got xs r) = refl

-- ---- many
module _ {A : Type 0} (p : Parser A) where
  pub many_cons : (k : ℕ) {s r : List ℕ} {x : A} → p s ≡ got x r → many p (suc k) s ≡ and_then (many p k r) (λ xs. got (x ∷ xs))
  unfolding many
  many_cons k e = then_got _ e

  pub many_refused : (k : ℕ) {s : List ℕ} {n : ℕ} → p s ≡ refused n → many p (suc k) s ≡ refused n
  unfolding many
  many_refused k e = then_refused _ e

  pub many_length : (n : ℕ) (s : List ℕ) (xs : List A) (r : List ℕ) → many p n s ≡ got xs r → length xs ≡ n
  unfolding many
  many_length zero s xs r e = let z : xs ≡ [] = cc in rw z
  many_length (suc n) s xs r e =
      let a = taken (p s) _ xs r e in
      let b = taken (many p n a.rest) _ xs r a.more in
      let z : xs ≡ a.value ∷ b.value = cc in
      rw z (ap suc (many_length n a.rest b.value b.rest b.is))

  -- one passed, of those that are left
  pub skip_turn : (k : ℕ) {s r : List ℕ} {x : A} → 0 < k → p s ≡ got x r → skipped (many p k s) ≡ skipped (many p (k - 1) r)
  skip_turn zero h e = absurd (omega arith)
  skip_turn (suc k) {s} {r} {x} h e =
      let z : suc k - 1 ≡ k = omega arith in
      ap skipped (many_cons k e) ∙ skip_cons x (many p k r) ∙ ap (λ (m : ℕ). skipped (many p m r)) (sym z)

  pub skip_next : (n i : ℕ) {s r : List ℕ} {x : A} → i < n → p s ≡ got x r → skipped (many p (n - i) s) ≡ skipped (many p (n - (i + 1)) r)
  skip_next n i {r = r} h e = let z : n - i - 1 ≡ n - (i + 1) = omega arith in skip_turn (n - i) (omega arith) e ∙ ap (λ (m : ℕ). skipped (many p m r)) z

  pub skip_bad : (k : ℕ) {s : List ℕ} {n : ℕ} → 0 < k → p s ≡ refused n → skipped (many p k s) ≡ refused n
  unfolding map_got
  skip_bad zero h e = absurd (omega arith)
  skip_bad (suc k) h e = ap skipped (many_refused k e)

  pub skip_end : (k : ℕ) (s : List ℕ) → k ≤ 0 → skipped (many p k s) ≡ got tt s
  unfolding map_got many
  skip_end zero s h = refl
  skip_end (suc k) s h = absurd (omega arith)

-- ---- rows
module _ (t : ℕ) (s : List ℕ) where
  pub row_skip : {h : RowHead} {a b : List ℕ} {ts : List Term} → head t s ≡ got h a → many term h.count a ≡ got ts b → row t s ≡ got (record { head = h; terms = ts }) b
  unfolding row
  row_skip e f = then_got _ e ∙ then_got _ f

  pub row_bad_head : {n : ℕ} → head t s ≡ refused n → row t s ≡ refused n
  unfolding row
  row_bad_head e = then_refused _ e

  pub row_bad_terms : {h : RowHead} {a : List ℕ} {n : ℕ} → head t s ≡ got h a → many term h.count a ≡ refused n → row t s ≡ refused n
  unfolding row
  row_bad_terms e f = then_got _ e ∙ then_refused _ f

  pub rows_cons : (k : ℕ) {x : Row} {r : List ℕ} → row t s ≡ got x r → rows (suc k) t s ≡ and_then (rows k (t + x.head.count) r) (λ rs. got (x ∷ rs))
  unfolding rows
  rows_cons k e = then_got _ e

  pub rows_refused : (k : ℕ) {n : ℕ} → row t s ≡ refused n → rows (suc k) t s ≡ refused n
  unfolding rows
  rows_refused k e = then_refused _ e

map_after : (t : ℕ) (x : Row) (g : Got (List Row)) → map_got (after t) (and_then g (λ rs. got (x ∷ rs))) ≡ map_got (after (t + x.head.count)) g
unfolding map_got and_then after
map_after t x (refused n) = refl
map_after t x (got rs r) = refl

pub map_value : {A B : Type 0} (h : A → B) {g : Got A} {a : A} {b : B} {r : List ℕ} → g ≡ got a r → map_got h g ≡ got b r → h a ≡ b
unfolding map_got
map_value h e f = let z : map_got h (got _ _) ≡ got _ _ = rw e at f in cc

module _ (t : ℕ) (s : List ℕ) where
  pub row_passed : {h : RowHead} {a b : List ℕ} → head t s ≡ got h a → skipped (many term h.count a) ≡ got tt b → map_got (upto t) (row t s) ≡ got (t + h.count) b
  unfolding map_got
  row_passed {h} {a} {b} e f =
      let ts = had (λ _. tt) (many term h.count a) tt b f in
      ap (map_got (upto t)) (row_skip t s e ts.is)

  pub row_headless : {n : ℕ} → head t s ≡ refused n → map_got (upto t) (row t s) ≡ refused n
  unfolding map_got
  row_headless e = ap (map_got (upto t)) (row_bad_head t s e)

  pub row_cut : {h : RowHead} {a : List ℕ} {n : ℕ} → head t s ≡ got h a → skipped (many term h.count a) ≡ refused n → map_got (upto t) (row t s) ≡ refused n
  unfolding map_got
  row_cut {h} {a} {n} e f = ap (map_got (upto t)) (row_bad_terms t s e (had_not (λ _. tt) (many term h.count a) n f))

  -- a row passed, of the k that are left
  pub rows_turn : (k : ℕ) {e : ℕ} {r : List ℕ} → 0 < k → map_got (upto t) (row t s) ≡ got e r → map_got (after t) (rows k t s) ≡ map_got (after e) (rows (k - 1) e r)
  rows_turn zero h q = absurd (omega arith)
  rows_turn (suc k) {e} {r} h q =
      let x = had (upto t) (row t s) e r q in
      let y : t + x.value.head.count ≡ e = map_value (upto t) x.is q in
      let z : suc k - 1 ≡ k = omega arith in
      ap (map_got (after t)) (rows_cons t s k x.is) ∙ map_after t x.value (rows k (t + x.value.head.count) r) ∙ ap
      (λ (m : ℕ). map_got (after m) (rows k m r)) y ∙ ap (λ (m : ℕ). map_got (after e) (rows m e r)) (sym z)

  pub rows_next : (n i : ℕ) {e : ℕ} {r : List ℕ} → i < n → map_got (upto t) (row t s) ≡ got e r → map_got (after t) (rows (n - i) t s) ≡ map_got (after e) (rows (n - (i + 1)) e r)
  rows_next n i {e} {r} h q = let z : n - i - 1 ≡ n - (i + 1) = omega arith in rows_turn (n - i) (omega arith) q ∙ ap (λ (m : ℕ). map_got (after e) (rows m e r)) z

  pub rows_bad : (k : ℕ) {n : ℕ} → 0 < k → map_got (upto t) (row t s) ≡ refused n → map_got (after t) (rows k t s) ≡ refused n
  unfolding map_got
  rows_bad zero h q = absurd (omega arith)
  rows_bad (suc k) {n} h q = ap (map_got (after t)) (rows_refused t s k (had_not (upto t) (row t s) n q))

  pub rows_end : (k : ℕ) → k ≤ 0 → map_got (after t) (rows k t s) ≡ got t s
  unfolding map_got rows after
  rows_end zero h = refl
  rows_end (suc k) h = absurd (omega arith)

-- each row has as many terms as its count says
unfoldable pub Sized : List Row → Type 0
Sized [] = Unit {0}
Sized (r ∷ rs) = (length r.terms ≡ r.head.count) × Sized rs

pub after_length : (t : ℕ) (rs : List Row) → Sized rs → after t rs ≡ t + length (all_terms rs)
unfolding Sized after all_terms
after_length t [] z = sym (add-zero t)
after_length t (r ∷ rs) z = let y = after_length (t + r.head.count) rs z.1 in omega (arith, y, z.0, length-append r.terms (all_terms rs))

pub row_sized : (t : ℕ) (s : List ℕ) (x : Row) (r : List ℕ) → row t s ≡ got x r → length x.terms ≡ x.head.count
unfolding row
row_sized t s x r e =
    let a = taken (head t s) _ x r e in
    let b = taken (many term a.value.count a.rest) _ x r a.more in
    let z : x ≡ record { head = a.value; terms = b.value } = cc in
    rw z (many_length term a.value.count a.rest b.value b.rest b.is)

pub record RowsAre (n : ℕ) (rs : List Row) : Type 0 where
  pub count : length rs ≡ n
  pub sized : Sized rs

pub rows_are_lem : (n t : ℕ) (s : List ℕ) (rs : List Row) (r : List ℕ) → rows n t s ≡ got rs r → RowsAre n rs
unfolding rows Sized
rows_are_lem zero t s rs r e = let z : rs ≡ [] = cc in rw z (record { count = refl; sized = tt })
rows_are_lem (suc n) t s rs r e =
    let a = taken (row t s) _ rs r e in
    let b = taken (rows n (t + a.value.head.count) a.rest) _ rs r a.more in
    let z : rs ≡ a.value ∷ b.value = cc in
    let y = rows_are_lem n (t + a.value.head.count) a.rest b.value b.rest b.is in
    rw z (record { count = ap suc y.count; sized = (row_sized t s a.value a.rest a.is, y.sized) })

-- ---- the file
unfoldable pub seen : Decoded → FileRead
seen (refusal n) = FileRead.Refused n
seen (file f) = FileRead.Model (header_of f)

unfoldable pub rows_seen : Settings → Got (List Row) → FileRead
rows_seen h (refused n) = FileRead.Refused n
rows_seen h (got rs []) = FileRead.Model (record { vars = h.vars; rows = h.rows; terms = after 0 rs; feasibility = h.feasibility; int_tol = h.int_tol; mode = h.mode })
rows_seen h (got rs (b ∷ s)) = FileRead.Refused 13

module _ (h : Settings) (g : Got (List Row)) where
  pub tail_refused : {n : ℕ} → map_got (after 0) g ≡ refused n → FileRead.Refused n ≡ rows_seen h g
  unfolding rows_seen
  tail_refused {n} e = let z = had_not (after 0) g n e in rw z

  pub tail_more : (s : List ℕ) (a : ℕ) {t : ℕ} → map_got (after 0) g ≡ got t (drop a s) → a < length s → FileRead.Refused 13 ≡ rows_seen h g
  unfolding rows_seen
  tail_more s a {t} e l = let x = had (after 0) g t (drop a s) e in sym (ap (rows_seen h) (x.is ∙ ap (got x.value) (drop-cons s a 0 l)))

  pub tail_done : (s : List ℕ) (a : ℕ) {t : ℕ} → map_got (after 0) g ≡ got t (drop a s) → length s ≤ a
      → FileRead.Model (record { vars = h.vars; rows = h.rows; terms = t; feasibility = h.feasibility; int_tol = h.int_tol; mode = h.mode })
      ≡ rows_seen h g
  unfolding rows_seen
  tail_done s a {t} e l =
      let x = had (after 0) g t (drop a s) e in
      let y : after 0 x.value ≡ t = map_value (after 0) x.is e in
      sym (ap (rows_seen h) (x.is ∙ ap (got x.value) (drop_of_length-le s l)) ∙ ap
      (λ (m : ℕ). FileRead.Model
      (record { vars = h.vars; rows = h.rows; terms = m; feasibility = h.feasibility; int_tol = h.int_tol; mode = h.mode })) y)

-- what stands after the rows decides
end_more : (h : Settings) (rs : List Row) (s : List ℕ) {n : ℕ} → end s ≡ refused n → FileRead.Refused n ≡ rows_seen h (got rs s)
unfolding end rows_seen
end_more h rs [] e = absurd (let z : ◌≡◌ {A = ℕ} 0 1 = cc in omega arith)
end_more h rs (b ∷ s) e = ap FileRead.Refused (cc)

end_done : (h : Settings) (rs : List Row) (s : List ℕ) {r : List ℕ} → end s ≡ got tt r
    → FileRead.Model (record { vars = h.vars; rows = h.rows; terms = after 0 rs; feasibility = h.feasibility; int_tol = h.int_tol; mode = h.mode }) ≡ rows_seen h (got rs s)
unfolding end rows_seen
end_done h rs [] e = refl
end_done h rs (b ∷ s) e = absurd (let z : ◌≡◌ {A = ℕ} 0 1 = cc in omega arith)

module _ (h : Settings) (g : Got (List Row)) {t : ℕ} {s : List ℕ} (e : map_got (after 0) g ≡ got t s) where
  pub rest_more : {n : ℕ} → end s ≡ refused n → FileRead.Refused n ≡ rows_seen h g
  rest_more q = let x = had (after 0) g t s e in end_more h x.value s q ∙ ap (rows_seen h) (sym x.is)

  pub rest_done : {r : List ℕ} → end s ≡ got tt r
      → FileRead.Model (record { vars = h.vars; rows = h.rows; terms = t; feasibility = h.feasibility; int_tol = h.int_tol; mode = h.mode })
      ≡ rows_seen h g
  rest_done q =
      let x = had (after 0) g t s e in
      let y : after 0 x.value ≡ t = map_value (after 0) x.is e in
      ap (λ (m : ℕ). FileRead.Model (record { vars = h.vars; rows = h.rows; terms = m; feasibility = h.feasibility; int_tol = h.int_tol; mode = h.mode })) (sym y)
      ∙ end_done h x.value s q ∙ ap (rows_seen h) (sym x.is)

lists_header : (h : Settings) (vs : List Variable) (rs : List Row) → length vs ≡ h.vars → RowsAre h.rows rs → FileRead.Model (header_of (lists h vs rs)) ≡ rows_seen h (got rs [])
unfolding header_of lists rows_seen
lists_header h vs rs e y =
    let z : after 0 rs ≡ length (all_terms rs) = omega (arith, after_length 0 rs y.sized) in
    rw (z, ← e, ← y.count, length-map vs (λ (v : Variable). v.objective), length-map rs (λ (r : Row). r.head.cmp), length-map (all_terms rs) (λ (x : Term). x.index))

pub scan_unsettled : {n : ℕ} (s : List ℕ) → settings s ≡ refused n → FileRead.Refused n ≡ seen (decode s)
unfolding decode whole decoded seen
scan_unsettled s e = sym (ap (λ (g : Got Lists). seen (decoded g)) (then_refused _ e))

module _ (s : List ℕ) {a : List ℕ} {h : Settings} (p : settings s ≡ got h a) where
  pub scan_refused : {n : ℕ} → skipped (many variable h.vars a) ≡ refused n → FileRead.Refused n ≡ seen (decode s)
  unfolding decode whole decoded seen
  scan_refused {n} e = sym (ap (λ (g : Got Lists). seen (decoded g)) (then_got _ p ∙ then_refused _ (had_not (λ _. tt) (many variable h.vars a) n e)))

  scan_end : {vs : List Variable} {b : List ℕ} → many variable h.vars a ≡ got vs b → (g : Got (List Row)) → rows h.rows 0 b ≡ g → rows_seen h g ≡ seen (decode s)
  unfolding decode whole decoded seen rows_seen end
  scan_end e (refused n) f = sym (ap (λ (g : Got Lists). seen (decoded g)) (then_got _ p ∙ then_got _ e ∙ then_refused _ f))
  scan_end e (got rs (x ∷ y)) f = sym (ap (λ (g : Got Lists). seen (decoded g)) (then_got _ p ∙ then_got _ e ∙ then_got _ f ∙ then_refused _ refl))
  scan_end {vs} {b} e (got rs []) f =
      let y = lists_header h vs rs (many_length variable h.vars a vs b e) (rows_are_lem h.rows 0 b rs [] f) in
      sym (ap (λ (g : Got Lists). seen (decoded g)) (then_got _ p ∙ then_got _ e ∙ then_got _ f ∙ then_got _ refl) ∙ y)

  pub scan_rows : {b : List ℕ} → skipped (many variable h.vars a) ≡ got tt b → rows_seen h (rows h.rows 0 b) ≡ seen (decode s)
  scan_rows {b} e = let v = had (λ _. tt) (many variable h.vars a) tt b e in scan_end v.is (rows h.rows 0 b) refl
