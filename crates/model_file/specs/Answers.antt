-- The reader's answers: from what the checking pass saw, and the room there is, to the answer and the slices.
use Rattle.std.specs.Prelude.{ℕ, suc, ◌+◌, ◌≤◌, ◌<◌, ◌≡◌, refl, Bool, true, false, ◌&&◌, leb}
use Rattle.std.proofs.Math.Path.{ap}
use Rattle.std.proofs.Common.{sym, subst, ◌∙◌, true≢false, arith, leb-true}
use mathlib.Core.List.{List, [], ◌∷◌, map}
use Rattle.std.proofs.Math.ListN.{length, length-map}
use Rattle.std.proofs.lemmas.List.Edits.{sets}
use Rattle.floats.specs.Num.{choose}
use Rattle.model_file.specs.declared.Variable.{Variable}
use Rattle.model_file.specs.declared.Term.{Term}
use Rattle.model_file.specs.declared.Settings.{Settings}
use Rattle.model_file.specs.declared.Header.{Header}
use Rattle.model_file.specs.Format.{refused, got, many, settings, variable, Row, rows, ends, all_terms, Lists, lists, Decoded, refusal, file, decode}
use Rattle.model_file.specs.Reading.{FileRead, Slices, slices, over, filled, room, room_vars, room_rows, room_of, header_of, Out, out, into, read_into}
use Rattle.model_file.specs.Skips.{seen, map_got, skipped, after, after_length, many_length, rows_are_lem, had, had_not, scan_unsettled}
use Rattle.model_file.specs.Fills.{fill, put_var, put_start, Sizes, sizes, sizes_var, sizes_fill, VarPlace, fill_rows, Within, Roomy}
use Rattle.model_file.specs.Leaves.{put_all, fill_all, put_vars, with_rows, put_rows, over_sets, Opened, opened}

-- a file that was checked, and for which there is room
pub record Ready (s : List ℕ) (l : Slices) : Type 0 where
  pub lists : Lists
  pub is : decode s ≡ file lists
  pub roomy : room lists l ≡ true

-- what the checking pass saw
pub record Saw (d : Decoded) (h : Header) : Type 0 where
  pub lists : Lists
  pub is : d ≡ file lists
  pub header : h ≡ header_of lists

saw : (d : Decoded) (h : Header) → FileRead.Model h ≡ seen d → Saw d h
unfolding seen
saw (refusal n) h e = absurd (let z : ◌≡◌ {A = ℕ} 0 1 = cc in omega arith)
saw (file f) h e = record { lists = f; is = refl; header = cc }

saw_refusal : (d : Decoded) (n : ℕ) → FileRead.Refused n ≡ seen d → d ≡ refusal n
unfolding seen
saw_refusal (refusal m) n e = ap refusal (cc)
saw_refusal (file f) n e = absurd (let z : ◌≡◌ {A = ℕ} 0 1 = cc in omega arith)

-- the rooms of a file's lists are those of its header
abbrev pub vars_room : ℕ → Slices → Bool
vars_room n l = room_vars n (length l.objective) (length l.lower) (length l.upper) (length l.domain)

abbrev pub rows_room : ℕ → ℕ → Slices → Bool
rows_room n t l = room_rows n t (length l.starts) (length l.index) (length l.coeff) (length l.cmp) (length l.rhs)

lists_room : (f : Lists) (h : Header) (l : Slices) → h ≡ header_of f → room f l ≡ vars_room h.vars l && rows_room h.rows h.terms l
unfolding room header_of
lists_room f h l e = rw e

both : {a b : Bool} → a ≡ true → b ≡ true → a && b ≡ true
both p q = rw (p, q)

first : {a : Bool} (b : Bool) → a ≡ false → a && b ≡ false
first b p = rw p

second : {a b : Bool} → a ≡ true → b ≡ false → a && b ≡ false
second p q = rw (p, q)

left : (a b : Bool) → a && b ≡ true → a ≡ true
left true b e = refl
left false b e = e

right : (a b : Bool) → a && b ≡ true → b ≡ true
right true b e = e
right false b e = absurd (true≢false (sym e))

module _ (s : List ℕ) (l : Slices) where
  pub answer_refused : {n : ℕ} → FileRead.Refused n ≡ seen (decode s) → out (FileRead.Refused n) l ≡ read_into s l
  unfolding read_into into
  answer_refused {n} e = rw (saw_refusal (decode s) n e)

  -- no room
  answer_short : {f : Lists} → decode s ≡ file f → room f l ≡ false → out (FileRead.Refused 10) l ≡ read_into s l
  unfolding read_into into choose
  answer_short e p = rw (e, p)

  -- room
  answer_full : {f : Lists} → decode s ≡ file f → room f l ≡ true → out (FileRead.Model (header_of f)) (filled f l) ≡ read_into s l
  unfolding read_into into choose
  answer_full e p = rw (e, p)

  module _ {h : Header} (e : FileRead.Model h ≡ seen (decode s)) where
    pub answer_few_vars : vars_room h.vars l ≡ false → out (FileRead.Refused 10) l ≡ read_into s l
    answer_few_vars p =
        let f = saw (decode s) h e in
        answer_short f.is (lists_room f.lists h l f.header ∙ first (rows_room h.rows h.terms l) p)

    pub answer_few_rows : vars_room h.vars l ≡ true → rows_room h.rows h.terms l ≡ false → out (FileRead.Refused 10) l ≡ read_into s l
    answer_few_rows p q = let f = saw (decode s) h e in answer_short f.is (lists_room f.lists h l f.header ∙ second p q)

    module _ (p : vars_room h.vars l ≡ true) (q : rows_room h.rows h.terms l ≡ true) where
      pub answer_ready : Ready s l
      answer_ready = let f = saw (decode s) h e in record { lists = f.lists; is = f.is; roomy = lists_room f.lists h l f.header ∙ both p q }

      pub answer_model : {k : Slices} → k ≡ (read_into s l).lent → out (FileRead.Model h) k ≡ read_into s l
      answer_model {k} g =
          let f = saw (decode s) h e in
          let z : out (FileRead.Model (header_of f.lists)) (filled f.lists l) ≡ read_into s l = answer_full f.is (lists_room f.lists h l f.header ∙ both p q) in
          ap (λ (x : Header). out (FileRead.Model x) k) f.header ∙ ap (out (FileRead.Model (header_of f.lists))) (g ∙ sym (ap (λ (o : Out). o.lent) z)) ∙ z

    -- the same by one test of the room
    pub answer_few : room_of h l ≡ false → out (FileRead.Refused 10) l ≡ read_into s l
    answer_few p = let f = saw (decode s) h e in answer_short f.is (lists_room f.lists h l f.header ∙ p)

    module _ (p : room_of h l ≡ true) where
      pub answer_roomy : Ready s l
      answer_roomy = answer_ready (left (vars_room h.vars l) (rows_room h.rows h.terms l) p) (right (vars_room h.vars l) (rows_room h.rows h.terms l) p)

      pub answer_read : {k : Slices} → k ≡ (read_into s l).lent → out (FileRead.Model h) k ≡ read_into s l
      answer_read {k} g = answer_model (left (vars_room h.vars l) (rows_room h.rows h.terms l) p) (right (vars_room h.vars l) (rows_room h.rows h.terms l) p) g

-- ---- filling
split : (n m : ℕ) (b : Bool) → leb n m && b ≡ true → (n ≤ m) × (b ≡ true)
split n m b e = (leb-true n m (left (leb n m) b e), right (leb n m) b e)

vars_fit : (n o l u d : ℕ) → room_vars n o l u d ≡ true → (n ≤ o) × (n ≤ l) × (n ≤ u) × (n ≤ d)
unfolding room_vars
vars_fit n o l u d e =
    let x = split n o (leb n l && (leb n u && leb n d)) e in
    let y = split n l (leb n u && leb n d) x.1 in
    let z = split n u (leb n d) y.1 in
    (x.0, y.0, z.0, leb-true n d z.1)

rows_fit : (n t p i a q b : ℕ) → room_rows n t p i a q b ≡ true → (n + 1 ≤ p) × (t ≤ i) × (t ≤ a) × (n ≤ q) × (n ≤ b)
unfolding room_rows
rows_fit n t p i a q b e =
    let v = split (n + 1) p (leb t i && (leb t a && (leb n q && leb n b))) e in
    let w = split t i (leb t a && (leb n q && leb n b)) v.1 in
    let x = split t a (leb n q && leb n b) w.1 in
    let y = split n q (leb n b) x.1 in
    (v.0, w.0, x.0, y.0, leb-true n b y.1)

lists_vars : (f : Lists) (l : Slices) → room f l ≡ true → vars_room (length f.objective) l ≡ true
unfolding room
lists_vars f l e = left (vars_room (length f.objective) l) (rows_room (length f.cmp) (length f.index) l) e

lists_rows : (f : Lists) (l : Slices) → room f l ≡ true → rows_room (length f.cmp) (length f.index) l ≡ true
unfolding room
lists_rows f l e = right (vars_room (length f.objective) l) (rows_room (length f.cmp) (length f.index) l) e

within_is : (n m : ℕ) (r : List ℕ) (rs : List Row) → rows n 0 r ≡ got rs [] → after 0 rs ≤ m → Within (map_got (after 0) (rows n 0 r)) m
unfolding map_got
within_is n m r rs e h = rw e h

ends_length : (t : ℕ) (rs : List Row) → length (ends t rs) ≡ length rs
unfolding ends
ends_length t [] = refl
ends_length t (r ∷ rs) = ap suc (ends_length (t + r.head.count) rs)

-- a list of mapped entries at the front
mapped : {A B : Type 0} (f : A → B) (xs : List A) (l : List B) → length xs ≤ length l → sets l 0 (map f xs) ≡ over (map f xs) l
mapped f xs l h = over_sets (map f xs) l (rw (length-map xs f) h)

leaves : (h : Settings) (vs : List Variable) (rs : List Row) (l : Slices) → (length vs ≤ length l.objective) × (length vs ≤ length l.lower)
    × (length vs ≤ length l.upper) × (length vs ≤ length l.domain) → (length rs + 1 ≤ length l.starts) × (length (all_terms rs) ≤ length l.index)
    × (length (all_terms rs) ≤ length l.coeff) × (length rs ≤ length l.cmp) × (length rs ≤ length l.rhs)
    → with_rows rs 0 0 (put_start (put_all put_var vs 0 l)) ≡ filled (lists h vs rs) l
unfolding filled lists
leaves h vs rs l m n =
    ap (λ (c : Slices). with_rows rs 0 0 (put_start c)) (put_vars vs 0 l)
    ∙ (λ j. slices
    (mapped (λ (v : Variable). v.objective) vs l.objective m.0 j)
    (mapped (λ (v : Variable). v.lower) vs l.lower m.1 j)
    (mapped (λ (v : Variable). v.upper) vs l.upper m.2 j)
    (mapped (λ (v : Variable). v.domain) vs l.domain m.3 j)
    (over_sets (0 ∷ ends 0 rs) l.starts (omega (arith, n.0, ends_length 0 rs)) j)
    (mapped (λ (x : Term). x.index) (all_terms rs) l.index n.1 j)
    (mapped (λ (x : Term). x.coeff) (all_terms rs) l.coeff n.2 j)
    (mapped (λ (r : Row). r.head.cmp) rs l.cmp n.3 j)
    (mapped (λ (r : Row). r.head.rhs) rs l.rhs n.4 j))

pub ready_unsettled : {s : List ℕ} {l : Slices} {n : ℕ} → Ready s l → settings s ≡ refused n → ⊥
ready_unsettled {s} {l} {n} k p = let z = saw_refusal (decode s) n (scan_unsettled s p) in let y = k.is in let x : ◌≡◌ {A = ℕ} 0 1 = cc in omega arith

-- the settings of a file that is ready, and what stands after them
module _ {s : List ℕ} {l : Slices} (k : Ready s l) {b : List ℕ} {h : Settings} (p : settings s ≡ got h b) where
  inside : Opened b h k.lists
  inside = opened s p k.is

  count_vars : length k.lists.objective ≡ h.vars
  unfolding lists
  count_vars =
      let o = inside in
      let z : k.lists.objective ≡ map (λ (v : Variable). v.objective) o.vars = ap (λ (f : Lists). f.objective) o.is_lists in
      ap length z ∙ length-map o.vars (λ (v : Variable). v.objective) ∙ many_length variable h.vars b o.vars o.rest o.is_vars

  count_rows : length k.lists.cmp ≡ h.rows
  unfolding lists
  count_rows =
      let o = inside in
      let z : k.lists.cmp ≡ map (λ (r : Row). r.head.cmp) o.row_list = ap (λ (f : Lists). f.cmp) o.is_lists in
      ap length z ∙ length-map o.row_list (λ (r : Row). r.head.cmp) ∙ (rows_are_lem h.rows 0 o.rest o.row_list [] o.is_rows).count

  count_terms : length k.lists.index ≡ after 0 inside.row_list
  unfolding lists
  count_terms =
      let o = inside in
      let z : k.lists.index ≡ map (λ (x : Term). x.index) (all_terms o.row_list) = ap (λ (f : Lists). f.index) o.is_lists in
      let y = after_length 0 o.row_list (rows_are_lem h.rows 0 o.rest o.row_list [] o.is_rows).sized in
      omega (arith, ap length z, length-map (all_terms o.row_list) (λ (x : Term). x.index), y)

  pub ready_vars : (h.vars ≤ length l.objective) × (h.vars ≤ length l.lower) × (h.vars ≤ length l.upper) × (h.vars ≤ length l.domain)
  ready_vars = rw count_vars at (vars_fit (length k.lists.objective) (length l.objective) (length l.lower) (length l.upper) (length l.domain) (lists_vars k.lists l k.roomy))

  pub var_places : (i : ℕ) → i < h.vars → VarPlace i (sizes l)
  var_places i k = let w = ready_vars in omega (arith, w)

  -- the variables are there
  pub ready_no : {n : ℕ} → skipped (many variable h.vars b) ≡ refused n → ⊥
  ready_no {n} e = let z = had_not (λ _. tt) (many variable h.vars b) n e in let y = inside.is_vars in let x : ◌≡◌ {A = ℕ} 0 1 = cc in omega arith

  module _ {r : List ℕ} (q : skipped (many variable h.vars b) ≡ got tt r) where
    rest_is_lem : inside.rest ≡ r
    rest_is_lem = let v = had (λ _. tt) (many variable h.vars b) tt r q in let z = v.is in let y = inside.is_vars in cc

    rows_is : rows h.rows 0 r ≡ got inside.row_list []
    rows_is = rw rest_is_lem at inside.is_rows

    pub ready_rows : (h.rows < length l.starts) × (h.rows ≤ length l.cmp) × (h.rows ≤ length l.rhs)
    ready_rows =
        let w = rows_fit (length k.lists.cmp) (length k.lists.index) (length l.starts) (length l.index) (length l.coeff) (length l.cmp)
        (length l.rhs) (lists_rows k.lists l k.roomy) in
        omega (arith, w, count_rows)

    pub ready_terms : Within (map_got (after 0) (rows h.rows 0 r)) (length l.index) × Within (map_got (after 0) (rows h.rows 0 r)) (length l.coeff)
    ready_terms =
        let w = rows_fit (length k.lists.cmp) (length k.lists.index) (length l.starts) (length l.index) (length l.coeff) (length l.cmp)
        (length l.rhs) (lists_rows k.lists l k.roomy) in (
          within_is h.rows (length l.index) r inside.row_list rows_is (omega (arith, w.1, count_terms)),
          within_is h.rows (length l.coeff) r inside.row_list rows_is (omega (arith, w.2, count_terms)),
        )

    -- c are the slices after the variables
    module _ {c : Slices} (e : c ≡ fill variable put_var h.vars b 0 l) where
      same_sizes : sizes c ≡ sizes l
      same_sizes = ap sizes e ∙ sizes_fill variable put_var sizes_var h.vars b 0 l

      pub row_places : (h.rows < length c.starts) × (h.rows ≤ length c.cmp) × (h.rows ≤ length c.rhs)
      row_places =
          let w = ready_rows in
          omega (arith, w, ap (λ (z : Sizes). z.starts) same_sizes, ap (λ (z : Sizes). z.cmp) same_sizes, ap (λ (z : Sizes). z.rhs) same_sizes)

      pub terms_fit : Roomy (map_got (after 0) (rows h.rows 0 r)) (sizes c)
      terms_fit = subst (Roomy (map_got (after 0) (rows h.rows 0 r))) (sym same_sizes) ready_terms

      pub ready_end : {d : Slices} → d ≡ fill_rows h.rows r 0 0 (put_start c) → d ≡ (read_into s l).lent
      ready_end {d} f =
          let o = inside in
          let u : c ≡ put_all put_var o.vars 0 l = e ∙ fill_all variable put_var h.vars b 0 l o.vars o.rest o.is_vars in
          let v : d ≡ with_rows o.row_list 0 0 (put_start c) = f ∙ put_rows h.rows r 0 0 (put_start c) o.row_list [] rows_is in
          let m = many_length variable h.vars b o.vars o.rest o.is_vars in
          let n = rows_are_lem h.rows 0 r o.row_list [] rows_is in
          let t = after_length 0 o.row_list n.sized in
          let x = vars_fit (length k.lists.objective) (length l.objective) (length l.lower) (length l.upper) (length l.domain) (lists_vars k.lists l k.roomy) in
          let y = rows_fit (length k.lists.cmp) (length k.lists.index) (length l.starts) (length l.index) (length l.coeff) (length l.cmp)
          (length l.rhs) (lists_rows k.lists l k.roomy) in
          let z = leaves h o.vars o.row_list l (omega (arith, x, m, count_vars)) (omega (arith, y, n.count, t, count_rows, count_terms)) in
          v ∙ ap (λ (g : Slices). with_rows o.row_list 0 0 (put_start g)) u ∙ z ∙ ap (λ (g : Lists). filled g l) (sym o.is_lists) ∙ ap (λ (g : Out). g.lent) (answer_full s l k.is k.roomy)
