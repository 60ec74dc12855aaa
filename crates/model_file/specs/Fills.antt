-- The pass that writes: each part that is read goes to its place, and what a whole file leaves is its lists at the front of the slices.
use Prim.Native.Nat.{ℕ, zero, suc, ◌+◌, ◌-◌, ◌≤◌, ◌<◌}
use Rattle.std.specs.Prelude.{◌≡◌, List, [], ◌∷◌, length, set, Result}
use Rattle.std.proofs.Math.Path.{refl}
use Rattle.std.proofs.Common.{ap, sym, subst, ◌∙◌, add-one}
use native.Mathlib.Omega.{arith}
use lib.ListN.{length-set}
use Rattle.model_file.specs.declared.Variable.{Variable}
use Rattle.model_file.specs.declared.Term.{Term}
use Rattle.model_file.specs.declared.RowHead.{RowHead}
use Rattle.model_file.specs.declared.FileRefusal.{FileRefusal}
use Rattle.model_file.specs.Format.{Got, refused, got, Parser, and_then, many, term, head, row, Row, rows}
use Rattle.model_file.specs.Reading.{Slices}
use Rattle.model_file.specs.Skips.{map_got, skipped, after, upto, skip_next, skip_bad, skip_end, rows_next, rows_cons, rows_refused, had, map_value}
use Rattle.model_file.specs.Places.{answered, then_got}

-- ---- what is written of a part that is read, and of one that is refused
unfoldable pub case_got : {A C : Type 0} → Got A → C → (A → List ℕ → C) → C
case_got (refused n) c f = c
case_got (got a s) c f = f a s

-- n parts, the first of them to place i
unfoldable pub fill : {A C : Type 0} → Parser A → (ℕ → A → C → C) → ℕ → List ℕ → ℕ → C → C
fill p put zero s i c = c
fill p put (suc n) s i c = case_got (p s) c (λ x r. fill p put n r (suc i) (put i x c))

module _ {A C : Type 0} (p : Parser A) (put : ℕ → A → C → C) where
  pub fill_turn : (n i : ℕ) {s r : List ℕ} {x : A} (c : C) → i < n → p s ≡ got x r → fill p put (n - i) s i c ≡ fill p put (n - (i + 1)) r (i + 1) (put i x c)
  unfolding fill case_got
  fill_turn n i c h e = let z : n - i ≡ suc (n - (i + 1)) = omega arith in rw (z, e, add-one)

  pub fill_bad : (n i : ℕ) {s : List ℕ} {m : ℕ} (c : C) → p s ≡ refused m → fill p put n s i c ≡ c
  unfolding fill case_got
  fill_bad zero i c e = refl
  fill_bad (suc n) i c e = rw e

  pub fill_end : (n i : ℕ) (s : List ℕ) (c : C) → n ≤ i → fill p put (n - i) s i c ≡ c
  unfolding fill
  fill_end n i s c h = let z : n - i ≡ 0 = omega arith in rw z

-- ---- where the parts go
-- a variable to place v, a term to place t
abbrev pub put_var : ℕ → Variable → Slices → Slices
put_var v x l = record l { objective = set l.objective v x.objective; lower = set l.lower v x.lower; upper = set l.upper v x.upper; domain = set l.domain v x.domain }

abbrev pub put_term : ℕ → Term → Slices → Slices
put_term t x l = record l { index = set l.index t x.index; coeff = set l.coeff t x.coeff }

-- a row's head to place r, its terms ending at e
abbrev pub put_head : ℕ → ℕ → RowHead → Slices → Slices
put_head r e h l = record l { starts = set l.starts (r + 1) e; cmp = set l.cmp r h.cmp; rhs = set l.rhs r h.rhs }

-- the first row begins at 0
abbrev pub put_start : Slices → Slices
put_start l = record l { starts = set l.starts 0 0 }

-- ---- how long the slices are, which no part changes
pub record Sizes : Type 0 where
  pub objective : ℕ
  pub lower : ℕ
  pub upper : ℕ
  pub domain : ℕ
  pub starts : ℕ
  pub index : ℕ
  pub coeff : ℕ
  pub cmp : ℕ
  pub rhs : ℕ

abbrev pub sizes : Slices → Sizes
sizes l =
    record {
      objective = length l.objective;
      lower = length l.lower;
      upper = length l.upper;
      domain = length l.domain;
      starts = length l.starts;
      index = length l.index;
      coeff = length l.coeff;
      cmp = length l.cmp;
      rhs = length l.rhs;
    }

pub sizes_var : (v : ℕ) (x : Variable) (l : Slices) → sizes (put_var v x l) ≡ sizes l
sizes_var v x l = rw (length-set l.objective v x.objective, length-set l.lower v x.lower, length-set l.upper v x.upper, length-set l.domain v x.domain) refl

pub sizes_term : (t : ℕ) (x : Term) (l : Slices) → sizes (put_term t x l) ≡ sizes l
sizes_term t x l = rw (length-set l.index t x.index, length-set l.coeff t x.coeff) refl

pub sizes_head : (r e : ℕ) (h : RowHead) (l : Slices) → sizes (put_head r e h l) ≡ sizes l
sizes_head r e h l = rw (length-set l.starts (r + 1) e, length-set l.cmp r h.cmp, length-set l.rhs r h.rhs) refl

pub sizes_start : (l : Slices) → sizes (put_start l) ≡ sizes l
sizes_start l = rw (length-set l.starts 0 0) refl

pub sizes_fill : {A : Type 0} (p : Parser A) (put : ℕ → A → Slices → Slices) → ((i : ℕ) (x : A) (l : Slices) → sizes (put i x l) ≡ sizes l) → (n : ℕ) (s : List ℕ) (i : ℕ) (l : Slices)
    → sizes (fill p put n s i l) ≡ sizes l
unfolding fill case_got
sizes_fill p put keeps zero s i l = refl
sizes_fill p put keeps (suc n) s i l =
    elim (p s) as (λ g. sizes (case_got g l (λ x r. fill p put n r (suc i) (put i x l))) ≡ sizes l)
    [ refused m ↦ refl | got x r ↦ sizes_fill p put keeps n r (suc i) (put i x l) ∙ keeps i x l ]

-- these places are there
abbrev pub VarPlace : ℕ → Sizes → Type 0
VarPlace v z = (v < z.objective) × (v < z.lower) × (v < z.upper) × (v < z.domain)

abbrev pub TermPlace : ℕ → Sizes → Type 0
TermPlace t z = (t < z.index) × (t < z.coeff)

abbrev pub RowPlace : ℕ → Sizes → Type 0
RowPlace r z = (r + 1 < z.starts) × (r < z.cmp) × (r < z.rhs)

-- row r, with t terms before it
unfoldable pub fill_row : ℕ → ℕ → List ℕ → Slices → Slices
fill_row r t s c = case_got (head t s) c (λ h a. fill term put_term h.count a t (put_head r (t + h.count) h c))

unfoldable pub fill_rows : ℕ → List ℕ → ℕ → ℕ → Slices → Slices
fill_rows zero s r t c = c
fill_rows (suc n) s r t c = case_got (row t s) (fill_row r t s c) (λ x a. fill_rows n a (suc r) (t + x.head.count) (fill_row r t s c))

-- ---- there is room for the terms
abbrev pub Within : Got ℕ → ℕ → Type 0
Within (refused m) n = ⊥
Within (got e r) n = e ≤ n

-- the terms of these rows end within the slices
abbrev pub Roomy : Got ℕ → Sizes → Type 0
Roomy g z = Within g z.index × Within g z.coeff

-- ---- what the loops promise: the place after, as the pass that checks gives it, and the slices
pub record ListFilled {A C : Type 0} (p : Parser A) (put : ℕ → A → C → C) (n : ℕ) (s : List ℕ) (i : ℕ) (z : Result (Unit {0}) FileRefusal) (r : List ℕ) (c k : C) : Type 0 where
  pub place : skipped (many p n s) ≡ answered z r
  pub columns : k ≡ fill p put n s i c

-- a loop that fills the places from i₀ up to n: at i, what is left of the bytes s₀ is s, and the columns are c
pub record Filling {A C : Type 0} (p : Parser A) (put : ℕ → A → C → C) (n i₀ : ℕ) (s₀ : List ℕ) (c₀ : C) (i : ℕ) (s : List ℕ) (c : C) : Type 0 where
  pub place : skipped (many p (n - i₀) s₀) ≡ skipped (many p (n - i) s)
  pub columns : fill p put (n - i) s i c ≡ fill p put (n - i₀) s₀ i₀ c₀

pub filling_start : {A C : Type 0} (p : Parser A) (put : ℕ → A → C → C) (n i : ℕ) (s : List ℕ) (c : C) → Filling p put n i s c i s c
filling_start p put n i s c = record { place = refl; columns = refl }

module _ {A C : Type 0} {p : Parser A} {put : ℕ → A → C → C} {n i₀ : ℕ} {s₀ : List ℕ} {c₀ : C} {i : ℕ} {s : List ℕ} {c : C} (v : Filling p put n i₀ s₀ c₀ i s c) where
  pub filling_turn : {x : A} {r : List ℕ} {k : C} → i < n → p s ≡ got x r → k ≡ put i x c → Filling p put n i₀ s₀ c₀ (i + 1) r k
  filling_turn {x} {r} {k} h e f =
      record {
        place = v.place ∙ skip_next p n i h e;
        columns = ap (fill p put (n - (i + 1)) r (i + 1)) f ∙ sym (fill_turn p put n i c h e) ∙ v.columns;
      }

  pub filling_bad : {m : ℕ} → i < n → p s ≡ refused m → (skipped (many p (n - i₀) s₀) ≡ refused m) × (c ≡ fill p put (n - i₀) s₀ i₀ c₀)
  filling_bad h e = (v.place ∙ skip_bad p (n - i) (omega arith) e, sym (fill_bad p put (n - i) i c e) ∙ v.columns)

  pub filling_end : n ≤ i → (skipped (many p (n - i₀) s₀) ≡ got tt s) × (c ≡ fill p put (n - i₀) s₀ i₀ c₀)
  filling_end h = (v.place ∙ skip_end p (n - i) s (omega arith), sym (fill_end p put n i s c h) ∙ v.columns)

-- ---- a row
pub after_le : (t : ℕ) (rs : List Row) → t ≤ after t rs
unfolding after
after_le t [] = omega arith
after_le t (r ∷ rs) = let z = after_le (t + r.head.count) rs in omega arith

row_fits : (t n : ℕ) (h : RowHead) (g : Got (List Term)) → Within (map_got (upto t) (and_then g (λ ts. got (record { head = h; terms = ts })))) n → t + h.count ≤ n
unfolding map_got and_then
row_fits t n h (refused m) w = absurd w
row_fits t n h (got ts r) w = w

rows_fit : (t n : ℕ) (x : Row) (r : List ℕ) (g : Got (List Row)) → Within (map_got (after t) (and_then g (λ rs. got (x ∷ rs)))) n → t + x.head.count ≤ n
unfolding map_got and_then after
rows_fit t n x r (refused m) w = absurd w
rows_fit t n x r (got rs b) w = omega (arith, w, after_le (t + x.head.count) rs)

row_within : (t n k : ℕ) (s : List ℕ) (g : Got Row) → row t s ≡ g → Within (map_got (after t) (rows (suc k) t s)) n → Within (map_got (upto t) g) n
unfolding map_got
row_within t n k s (refused m) e w = rw (rows_refused t s k e) at w
row_within t n k s (got x r) e w = rows_fit t n x r (rows k (t + x.head.count) r) (rw (rows_cons t s k e) at w)

module _ (t : ℕ) (s : List ℕ) where
  pub row_room : (n : ℕ) {h : RowHead} {a : List ℕ} → head t s ≡ got h a → Within (map_got (upto t) (row t s)) n → t + h.count ≤ n
  unfolding row
  row_room n {h} {a} e w = row_fits t n h (many term h.count a) (subst (λ (g : Got Row). Within (map_got (upto t) g) n) (then_got _ e) w)

  pub rows_room_lem : (k : ℕ) {m n : ℕ} → 0 < k → m ≡ n → Within (map_got (after t) (rows k t s)) n → Within (map_got (upto t) (row t s)) m
  rows_room_lem zero h e w = absurd (omega arith)
  rows_room_lem (suc k) {m} {n} h e w = rw e (row_within t n k s (row t s) refl w)

  pub row_unread : {m : ℕ} (r : ℕ) (c : Slices) → head t s ≡ refused m → c ≡ fill_row r t s c
  unfolding fill_row case_got
  row_unread r c e = rw e

  pub row_read : (r : ℕ) {h : RowHead} {a : List ℕ} {k : Slices} (c : Slices) → head t s ≡ got h a → k ≡ fill term put_term h.count a t (put_head r (t + h.count) h c) → k ≡ fill_row r t s c
  unfolding fill_row case_got
  row_read r c e f = rw (e, f)

  pub sizes_row : (r : ℕ) (c : Slices) → sizes (fill_row r t s c) ≡ sizes c
  unfolding fill_row case_got
  sizes_row r c =
      elim (head t s) as (λ g. sizes (case_got g c (λ h a. fill term put_term h.count a t (put_head r (t + h.count) h c))) ≡ sizes c)
      [ refused m ↦ refl | got h a ↦ sizes_fill term put_term sizes_term h.count a t (put_head r (t + h.count) h c) ∙ sizes_head r (t + h.count) h c ]

-- the terms of a row: those from t up to t + n
pub counted : (t n : ℕ) {s r : List ℕ} {z : Result (Unit {0}) FileRefusal} {c k : Slices} → ListFilled term put_term (t + n - t) s t z r c k → ListFilled term put_term n s t z r c k
counted t n v = let z : t + n - t ≡ n = omega arith in rw z at v

-- all of them
pub from_zero : {A C : Type 0} (p : Parser A) (put : ℕ → A → C → C) (n : ℕ) {s r : List ℕ} {i : ℕ} {z : Result (Unit {0}) FileRefusal} {c k : C}
    → ListFilled p put (n - 0) s i z r c k → ListFilled p put n s i z r c k
from_zero p put n v = let z : n - 0 ≡ n = omega arith in rw z at v

-- ---- the rows
-- a loop that fills n rows: at row r, with t terms so far, the bytes s are left, and the slices are c. There is room for the terms that are left
pub record RowsFilling (n : ℕ) (s₀ : List ℕ) (c₀ : Slices) (r t : ℕ) (s : List ℕ) (c : Slices) : Type 0 where
  pub small : t ≤ 512
  pub same : sizes c ≡ sizes c₀
  pub room : Roomy (map_got (after t) (rows (n - r) t s)) (sizes c₀)
  pub columns : fill_rows (n - r) s r t c ≡ fill_rows n s₀ 0 0 c₀

pub rows_filling : (n : ℕ) (s : List ℕ) (c : Slices) → Roomy (map_got (after 0) (rows n 0 s)) (sizes c) → RowsFilling n s c 0 0 s c
rows_filling n s c u = let z : n - 0 ≡ n = omega arith in record { small = omega arith; same = refl; room = rw z u; columns = rw z }

pub fill_rows_cons : (n : ℕ) (s : List ℕ) (r t : ℕ) (c : Slices) {x : Row} {a : List ℕ} → row t s ≡ got x a → fill_rows (suc n) s r t c ≡ fill_rows n a (suc r) (t + x.head.count) (fill_row r t s c)
unfolding fill_rows case_got
fill_rows_cons n s r t c e = rw e

fill_rows_stop : (n : ℕ) (s : List ℕ) (r t : ℕ) (c : Slices) {m : ℕ} → row t s ≡ refused m → fill_rows (suc n) s r t c ≡ fill_row r t s c
unfolding fill_rows case_got
fill_rows_stop n s r t c e = rw e

module _ {n : ℕ} {s₀ : List ℕ} {c₀ : Slices} {r t : ℕ} {s : List ℕ} {c : Slices} (v : RowsFilling n s₀ c₀ r t s c) where
  -- the place and the terms of the next row are there
  pub rows_filling_room : r < n → Roomy (map_got (upto t) (row t s)) (sizes c)
  rows_filling_room h =
      subst (Roomy (map_got (upto t) (row t s))) (sym v.same)
      (rows_room_lem t s (n - r) (omega arith) refl v.room.0, rows_room_lem t s (n - r) (omega arith) refl v.room.1)

  pub rows_filling_turn : {e : ℕ} {a : List ℕ} {k : Slices} → r < n → e ≤ 512 → map_got (upto t) (row t s) ≡ got e a → k ≡ fill_row r t s c → RowsFilling n s₀ c₀ (r + 1) e a k
  rows_filling_turn {e} {a} {k} h small q f =
      let x = had (upto t) (row t s) e a q in
      let y : t + x.value.head.count ≡ e = map_value (upto t) x.is q in
      let z : n - r ≡ suc (n - (r + 1)) = omega arith in
      let w : map_got (after t) (rows (n - r) t s) ≡ map_got (after e) (rows (n - (r + 1)) e a) = rows_next t s n r h q in
      record {
        small = small;
        same = ap sizes f ∙ sizes_row t s r c ∙ v.same;
        room = rw w at v.room;
        columns =
            ap (fill_rows (n - (r + 1)) a (r + 1) e) f
            ∙ ap (λ (m : ℕ). fill_rows (n - (r + 1)) a m e (fill_row r t s c)) (add-one r)
            ∙ ap (λ (m : ℕ). fill_rows (n - (r + 1)) a (suc r) m (fill_row r t s c)) (sym y)
            ∙ sym (fill_rows_cons (n - (r + 1)) s r t c x.is)
            ∙ ap (λ (m : ℕ). fill_rows m s r t c) (sym z)
            ∙ v.columns;
      }

  -- no row that is left is refused
  pub rows_filling_bad : {m : ℕ} → r < n → map_got (upto t) (row t s) ≡ refused m → ⊥
  rows_filling_bad {m} h q = let w : Within (refused m) (sizes c).index = rw q at ((rows_filling_room h).0) in w

  pub rows_filling_end : n ≤ r → c ≡ fill_rows n s₀ 0 0 c₀
  unfolding fill_rows
  rows_filling_end h = let z : n - r ≡ 0 = omega arith in rw z at v.columns
