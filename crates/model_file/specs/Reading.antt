-- What reading a file into lent slices gives: the answer, and the slices after it.
use Rattle.std.specs.Prelude.{ℕ, ◌+◌, ◌≡◌, List, ◌++◌, Bool, ◌&&◌, length, drop, leb, Float, Result, Ok, Err}
use Rattle.std.proofs.Common.{◌∙◌}
use Rattle.floats.specs.Num.{choose}
use Rattle.model_file.specs.declared.FileRefusal.{FileRefusal}
use Rattle.model_file.specs.declared.Header.{Header}
use Rattle.model_file.specs.declared.ModelSlices.{ModelSlices}
use Rattle.model_file.specs.Format.{Lists, Decoded, refusal, file, decode}

-- ---- refusals
-- the number of a refusal: 10 where a lent slice is too short, and else the number that the format has for it
abbrev pub number_of : FileRefusal → ℕ
number_of FileRefusal.NoRoom = 10
number_of FileRefusal.Missing = 11
number_of FileRefusal.Reserved = 12
number_of FileRefusal.Trailing = 13
number_of FileRefusal.TooMany = 14

-- a file read, or the refusal's number
pub data FileRead : Type 0 where
  Refused : ℕ → FileRead
  Model : Header → FileRead

-- the code's answer
abbrev pub file_read : Result Header FileRefusal → FileRead
file_read (Ok h) = FileRead.Model h
file_read (Err e) = FileRead.Refused (number_of e)

-- what a file says beside its lists, with their sizes
unfoldable pub header_of : Lists → Header
header_of f = record { vars = length f.objective; rows = length f.cmp; terms = length f.index; feasibility = f.feasibility; int_tol = f.int_tol; mode = f.mode }

-- ---- the lent slices
pub record Slices : Type 0 where
  pub objective : List Float
  pub lower : List Float
  pub upper : List Float
  pub domain : List ℕ
  pub starts : List ℕ
  pub index : List ℕ
  pub coeff : List Float
  pub cmp : List ℕ
  pub rhs : List Float

abbrev pub slices : List Float → List Float → List Float → List ℕ → List ℕ → List ℕ → List Float → List ℕ → List Float → Slices
slices o l u d p i a q b = record { objective = o; lower = l; upper = u; domain = d; starts = p; index = i; coeff = a; cmp = q; rhs = b }

-- what stands behind the references
abbrev pub lent : ModelSlices → Slices
lent m = slices m.objective.now m.lower.now m.upper.now m.domain.now m.starts.now m.index.now m.coeff.now m.cmp.now m.rhs.now

-- the fields are the same references
pub record SameSlices (m k : ModelSlices) : Type 0 where
  pub objective : m.objective.ghost_name ≡ k.objective.ghost_name
  pub lower : m.lower.ghost_name ≡ k.lower.ghost_name
  pub upper : m.upper.ghost_name ≡ k.upper.ghost_name
  pub domain : m.domain.ghost_name ≡ k.domain.ghost_name
  pub starts : m.starts.ghost_name ≡ k.starts.ghost_name
  pub index : m.index.ghost_name ≡ k.index.ghost_name
  pub coeff : m.coeff.ghost_name ≡ k.coeff.ghost_name
  pub cmp : m.cmp.ghost_name ≡ k.cmp.ghost_name
  pub rhs : m.rhs.ghost_name ≡ k.rhs.ghost_name

pub same_then : {m k l : ModelSlices} → SameSlices m k → SameSlices k l → SameSlices m l
same_then a b =
    record {
      objective = a.objective ∙ b.objective;
      lower = a.lower ∙ b.lower;
      upper = a.upper ∙ b.upper;
      domain = a.domain ∙ b.domain;
      starts = a.starts ∙ b.starts;
      index = a.index ∙ b.index;
      coeff = a.coeff ∙ b.coeff;
      cmp = a.cmp ∙ b.cmp;
      rhs = a.rhs ∙ b.rhs;
    }

-- the file's list at the front, and the rest as it was
unfoldable pub over : {A : Type 0} → List A → List A → List A
over xs l = xs ++ drop (length xs) l

unfoldable pub filled : Lists → Slices → Slices
filled f l =
    slices
    (over f.objective l.objective)
    (over f.lower l.lower)
    (over f.upper l.upper)
    (over f.domain l.domain)
    (over f.starts l.starts)
    (over f.index l.index)
    (over f.coeff l.coeff)
    (over f.cmp l.cmp)
    (over f.rhs l.rhs)

-- no slice is shorter than the list that goes there
unfoldable pub room_vars : ℕ → ℕ → ℕ → ℕ → ℕ → Bool
room_vars n o l u d = leb n o && (leb n l && (leb n u && leb n d))

unfoldable pub room_rows : ℕ → ℕ → ℕ → ℕ → ℕ → ℕ → ℕ → Bool
room_rows n t p i a q b = leb (n + 1) p && (leb t i && (leb t a && (leb n q && leb n b)))

unfoldable pub room : Lists → Slices → Bool
room f l =
    room_vars (length f.objective) (length l.objective) (length l.lower) (length l.upper) (length l.domain)
    && room_rows (length f.cmp) (length f.index) (length l.starts) (length l.index) (length l.coeff) (length l.cmp) (length l.rhs)

-- the same of a file with these sizes
abbrev pub room_of : Header → Slices → Bool
room_of h l =
    room_vars h.vars (length l.objective) (length l.lower) (length l.upper) (length l.domain)
    && room_rows h.rows h.terms (length l.starts) (length l.index) (length l.coeff) (length l.cmp) (length l.rhs)

-- the answer, and the slices: a refusal leaves them as they were
pub record Out : Type 0 where
  pub answer : FileRead
  pub lent : Slices

abbrev pub out : FileRead → Slices → Out
out r l = record { answer = r; lent = l }

unfoldable pub into : Decoded → Slices → Out
into (refusal n) l = out (FileRead.Refused n) l
into (file f) l = choose (room f l) (out (FileRead.Model (header_of f)) (filled f l)) (out (FileRead.Refused 10) l)

unfoldable pub read_into : List ℕ → Slices → Out
read_into s l = into (decode s) l
