-- The two working slices as records of lists. A slice is cut into blocks; a block that holds several numbers of each variable or row side by
-- side is cut into strands, one for each of those numbers. docs/WORKSPACE.md has the layout.
use Rattle.std.specs.Prelude.{ℕ, zero, suc, ◌+◌, ◌*◌, ◌≤◌, List, [], ◌∷◌, length, take, drop, slice_index_or, slice_set, Float}
use Rattle.std.specs.Float.{nan}
use Rattle.space.specs.declared.Context.{Context}

-- a list cut into blocks of the given lengths
unfoldable pub blocks : {A : Type 0} → List ℕ → List A → List (List A)
blocks [] l = []
blocks (n ∷ ns) l = take n l ∷ blocks ns (drop n l)

-- where block k starts, and how long it is
unfoldable pub start : ℕ → List ℕ → ℕ
start k [] = 0
start zero (n ∷ ns) = 0
start (suc k) (n ∷ ns) = n + start k ns

unfoldable pub nth : {A : Type 0} → ℕ → List (List A) → List A
nth k [] = []
nth zero (b ∷ bs) = b
nth (suc k) (b ∷ bs) = nth k bs

unfoldable pub size : ℕ → List ℕ → ℕ
size k [] = 0
size zero (n ∷ ns) = n
size (suc k) (n ∷ ns) = size k ns

-- strand k of a block in which w elements stand side by side: those at places k, w + k, 2 * w + k and so on, n in all; d past the block's end
unfoldable pub strand : {A : Type 0} → A → ℕ → ℕ → ℕ → List A → List A
strand d w k zero l = []
strand d w k (suc n) l = slice_index_or l k d ∷ strand d w k n (drop w l)

-- m strands from strand k on, and all w
unfoldable pub strands_from : {A : Type 0} → A → ℕ → ℕ → ℕ → ℕ → List A → List (List A)
strands_from d w k zero n l = []
strands_from d w k (suc m) n l = strand d w k n l ∷ strands_from d w (suc k) m n l

unfoldable pub strands : {A : Type 0} → A → ℕ → ℕ → List A → List (List A)
strands d w n l = strands_from d w 0 w n l

-- element i of block k, or of strand k, is x now
unfoldable pub put_in : {A : Type 0} → ℕ → ℕ → A → List (List A) → List (List A)
put_in k i x [] = []
put_in zero i x (b ∷ bs) = slice_set b i x ∷ bs
put_in (suc k) i x (b ∷ bs) = b ∷ put_in k i x bs

-- block 0: wlo, whi, elo, ehi of each variable; 1: lo, hi, fold_scale, shift of each row; 2 to 5: written, rewritten, kept, bound; 6: coeffs
unfoldable pub fsizes : Context → List ℕ
fsizes s = (4 * s.vars) ∷ (4 * s.rows) ∷ s.rows ∷ s.rows ∷ s.rows ∷ s.rows ∷ s.terms ∷ []

-- blocks 0 to 5: the single numbers; 6: dirty, coeff_dirty of each row; 7, 8: queue, wave; 9: len, alive of each row; 10 to 13: folded, touched,
-- binaries, fate; 14 to 16: slot, bad_dec, bad_inc; 17, 18: vars, binary
unfoldable pub nsizes : Context → List ℕ
nsizes s = (1) ∷ (1) ∷ (1) ∷ (1) ∷ (1) ∷ (1) ∷ (2 * s.rows) ∷ s.rows ∷ s.rows ∷ (2 * s.rows) ∷ s.rows ∷ s.rows ∷ s.rows ∷ s.rows ∷ s.vars
    ∷ s.vars ∷ s.vars ∷ s.terms ∷ s.terms ∷ []

-- the bounds of variables, the numbers of rows, the coefficients of terms
pub record Floats : Type 0 where
  pub wlo : List Float
  pub whi : List Float
  pub elo : List Float
  pub ehi : List Float
  pub lo : List Float
  pub hi : List Float
  pub fold_scale : List Float
  pub shift : List Float
  pub written : List Float
  pub rewritten : List Float
  pub kept : List Float
  pub bound : List Float
  pub coeffs : List Float

-- the queue's length and five counts, one each; per row; per variable; per term
pub record Numbers : Type 0 where
  pub queued : List ℕ
  pub dropped : List ℕ
  pub tightened : List ℕ
  pub fixed : List ℕ
  pub rewrote : List ℕ
  pub passes : List ℕ
  pub dirty : List ℕ
  pub coeff_dirty : List ℕ
  pub queue : List ℕ
  pub wave : List ℕ
  pub len : List ℕ
  pub folded : List ℕ
  pub alive : List ℕ
  pub touched : List ℕ
  pub binaries : List ℕ
  pub fate : List ℕ
  pub slot : List ℕ
  pub bad_dec : List ℕ
  pub bad_inc : List ℕ
  pub vars : List ℕ
  pub binary : List ℕ

-- from the strands v of block 0 and r of block 1, and the blocks
unfoldable pub to_floats : List (List Float) → List (List Float) → List (List Float) → Floats
to_floats v r b = record {
  wlo = nth 0 v;
  whi = nth 1 v;
  elo = nth 2 v;
  ehi = nth 3 v;
  lo = nth 0 r;
  hi = nth 1 r;
  fold_scale = nth 2 r;
  shift = nth 3 r;
  written = nth 2 b;
  rewritten = nth 3 b;
  kept = nth 4 b;
  bound = nth 5 b;
  coeffs = nth 6 b;
}

-- from the strands m of block 6 and a of block 9, and the blocks
unfoldable pub to_numbers : List (List ℕ) → List (List ℕ) → List (List ℕ) → Numbers
to_numbers m a b = record {
  queued = nth 0 b;
  dropped = nth 1 b;
  tightened = nth 2 b;
  fixed = nth 3 b;
  rewrote = nth 4 b;
  passes = nth 5 b;
  dirty = nth 0 m;
  coeff_dirty = nth 1 m;
  queue = nth 7 b;
  wave = nth 8 b;
  len = nth 0 a;
  folded = nth 10 b;
  alive = nth 1 a;
  touched = nth 11 b;
  binaries = nth 12 b;
  fate = nth 13 b;
  slot = nth 14 b;
  bad_dec = nth 15 b;
  bad_inc = nth 16 b;
  vars = nth 17 b;
  binary = nth 18 b;
}

abbrev pub var_strands : Context → List (List Float) → List (List Float)
var_strands s b = strands nan 4 s.vars (nth 0 b)

abbrev pub row_strands : Context → List (List Float) → List (List Float)
row_strands s b = strands nan 4 s.rows (nth 1 b)

abbrev pub mark_strands : Context → List (List ℕ) → List (List ℕ)
mark_strands s b = strands 0 2 s.rows (nth 6 b)

abbrev pub alive_strands : Context → List (List ℕ) → List (List ℕ)
alive_strands s b = strands 0 2 s.rows (nth 9 b)

unfoldable pub floats_in : Context → List (List Float) → Floats
floats_in s b = to_floats (var_strands s b) (row_strands s b) b

unfoldable pub numbers_in : Context → List (List ℕ) → Numbers
numbers_in s b = to_numbers (mark_strands s b) (alive_strands s b) b

unfoldable pub floats_of : Context → List Float → Floats
floats_of s l = floats_in s (blocks (fsizes s) l)

unfoldable pub numbers_of : Context → List ℕ → Numbers
numbers_of s l = numbers_in s (blocks (nsizes s) l)

abbrev pub put_wlo : ℕ → Float → Floats → Floats
put_wlo i x f = record {
  wlo = slice_set f.wlo i x;
  whi = f.whi;
  elo = f.elo;
  ehi = f.ehi;
  lo = f.lo;
  hi = f.hi;
  fold_scale = f.fold_scale;
  shift = f.shift;
  written = f.written;
  rewritten = f.rewritten;
  kept = f.kept;
  bound = f.bound;
  coeffs = f.coeffs;
}

abbrev pub put_whi : ℕ → Float → Floats → Floats
put_whi i x f = record {
  wlo = f.wlo;
  whi = slice_set f.whi i x;
  elo = f.elo;
  ehi = f.ehi;
  lo = f.lo;
  hi = f.hi;
  fold_scale = f.fold_scale;
  shift = f.shift;
  written = f.written;
  rewritten = f.rewritten;
  kept = f.kept;
  bound = f.bound;
  coeffs = f.coeffs;
}

abbrev pub put_elo : ℕ → Float → Floats → Floats
put_elo i x f = record {
  wlo = f.wlo;
  whi = f.whi;
  elo = slice_set f.elo i x;
  ehi = f.ehi;
  lo = f.lo;
  hi = f.hi;
  fold_scale = f.fold_scale;
  shift = f.shift;
  written = f.written;
  rewritten = f.rewritten;
  kept = f.kept;
  bound = f.bound;
  coeffs = f.coeffs;
}

abbrev pub put_ehi : ℕ → Float → Floats → Floats
put_ehi i x f = record {
  wlo = f.wlo;
  whi = f.whi;
  elo = f.elo;
  ehi = slice_set f.ehi i x;
  lo = f.lo;
  hi = f.hi;
  fold_scale = f.fold_scale;
  shift = f.shift;
  written = f.written;
  rewritten = f.rewritten;
  kept = f.kept;
  bound = f.bound;
  coeffs = f.coeffs;
}

abbrev pub put_lo : ℕ → Float → Floats → Floats
put_lo i x f = record {
  wlo = f.wlo;
  whi = f.whi;
  elo = f.elo;
  ehi = f.ehi;
  lo = slice_set f.lo i x;
  hi = f.hi;
  fold_scale = f.fold_scale;
  shift = f.shift;
  written = f.written;
  rewritten = f.rewritten;
  kept = f.kept;
  bound = f.bound;
  coeffs = f.coeffs;
}

abbrev pub put_hi : ℕ → Float → Floats → Floats
put_hi i x f = record {
  wlo = f.wlo;
  whi = f.whi;
  elo = f.elo;
  ehi = f.ehi;
  lo = f.lo;
  hi = slice_set f.hi i x;
  fold_scale = f.fold_scale;
  shift = f.shift;
  written = f.written;
  rewritten = f.rewritten;
  kept = f.kept;
  bound = f.bound;
  coeffs = f.coeffs;
}

abbrev pub put_fold_scale : ℕ → Float → Floats → Floats
put_fold_scale i x f = record {
  wlo = f.wlo;
  whi = f.whi;
  elo = f.elo;
  ehi = f.ehi;
  lo = f.lo;
  hi = f.hi;
  fold_scale = slice_set f.fold_scale i x;
  shift = f.shift;
  written = f.written;
  rewritten = f.rewritten;
  kept = f.kept;
  bound = f.bound;
  coeffs = f.coeffs;
}

abbrev pub put_shift : ℕ → Float → Floats → Floats
put_shift i x f = record {
  wlo = f.wlo;
  whi = f.whi;
  elo = f.elo;
  ehi = f.ehi;
  lo = f.lo;
  hi = f.hi;
  fold_scale = f.fold_scale;
  shift = slice_set f.shift i x;
  written = f.written;
  rewritten = f.rewritten;
  kept = f.kept;
  bound = f.bound;
  coeffs = f.coeffs;
}

abbrev pub put_written : ℕ → Float → Floats → Floats
put_written i x f = record {
  wlo = f.wlo;
  whi = f.whi;
  elo = f.elo;
  ehi = f.ehi;
  lo = f.lo;
  hi = f.hi;
  fold_scale = f.fold_scale;
  shift = f.shift;
  written = slice_set f.written i x;
  rewritten = f.rewritten;
  kept = f.kept;
  bound = f.bound;
  coeffs = f.coeffs;
}

abbrev pub put_rewritten : ℕ → Float → Floats → Floats
put_rewritten i x f = record {
  wlo = f.wlo;
  whi = f.whi;
  elo = f.elo;
  ehi = f.ehi;
  lo = f.lo;
  hi = f.hi;
  fold_scale = f.fold_scale;
  shift = f.shift;
  written = f.written;
  rewritten = slice_set f.rewritten i x;
  kept = f.kept;
  bound = f.bound;
  coeffs = f.coeffs;
}

abbrev pub put_kept : ℕ → Float → Floats → Floats
put_kept i x f = record {
  wlo = f.wlo;
  whi = f.whi;
  elo = f.elo;
  ehi = f.ehi;
  lo = f.lo;
  hi = f.hi;
  fold_scale = f.fold_scale;
  shift = f.shift;
  written = f.written;
  rewritten = f.rewritten;
  kept = slice_set f.kept i x;
  bound = f.bound;
  coeffs = f.coeffs;
}

abbrev pub put_bound : ℕ → Float → Floats → Floats
put_bound i x f = record {
  wlo = f.wlo;
  whi = f.whi;
  elo = f.elo;
  ehi = f.ehi;
  lo = f.lo;
  hi = f.hi;
  fold_scale = f.fold_scale;
  shift = f.shift;
  written = f.written;
  rewritten = f.rewritten;
  kept = f.kept;
  bound = slice_set f.bound i x;
  coeffs = f.coeffs;
}

abbrev pub put_coeffs : ℕ → Float → Floats → Floats
put_coeffs i x f = record {
  wlo = f.wlo;
  whi = f.whi;
  elo = f.elo;
  ehi = f.ehi;
  lo = f.lo;
  hi = f.hi;
  fold_scale = f.fold_scale;
  shift = f.shift;
  written = f.written;
  rewritten = f.rewritten;
  kept = f.kept;
  bound = f.bound;
  coeffs = slice_set f.coeffs i x;
}

abbrev pub put_queued : ℕ → ℕ → Numbers → Numbers
put_queued i x f = record {
  queued = slice_set f.queued i x;
  dropped = f.dropped;
  tightened = f.tightened;
  fixed = f.fixed;
  rewrote = f.rewrote;
  passes = f.passes;
  dirty = f.dirty;
  coeff_dirty = f.coeff_dirty;
  queue = f.queue;
  wave = f.wave;
  len = f.len;
  folded = f.folded;
  alive = f.alive;
  touched = f.touched;
  binaries = f.binaries;
  fate = f.fate;
  slot = f.slot;
  bad_dec = f.bad_dec;
  bad_inc = f.bad_inc;
  vars = f.vars;
  binary = f.binary;
}

abbrev pub put_dropped : ℕ → ℕ → Numbers → Numbers
put_dropped i x f = record {
  queued = f.queued;
  dropped = slice_set f.dropped i x;
  tightened = f.tightened;
  fixed = f.fixed;
  rewrote = f.rewrote;
  passes = f.passes;
  dirty = f.dirty;
  coeff_dirty = f.coeff_dirty;
  queue = f.queue;
  wave = f.wave;
  len = f.len;
  folded = f.folded;
  alive = f.alive;
  touched = f.touched;
  binaries = f.binaries;
  fate = f.fate;
  slot = f.slot;
  bad_dec = f.bad_dec;
  bad_inc = f.bad_inc;
  vars = f.vars;
  binary = f.binary;
}

abbrev pub put_tightened : ℕ → ℕ → Numbers → Numbers
put_tightened i x f = record {
  queued = f.queued;
  dropped = f.dropped;
  tightened = slice_set f.tightened i x;
  fixed = f.fixed;
  rewrote = f.rewrote;
  passes = f.passes;
  dirty = f.dirty;
  coeff_dirty = f.coeff_dirty;
  queue = f.queue;
  wave = f.wave;
  len = f.len;
  folded = f.folded;
  alive = f.alive;
  touched = f.touched;
  binaries = f.binaries;
  fate = f.fate;
  slot = f.slot;
  bad_dec = f.bad_dec;
  bad_inc = f.bad_inc;
  vars = f.vars;
  binary = f.binary;
}

abbrev pub put_fixed : ℕ → ℕ → Numbers → Numbers
put_fixed i x f = record {
  queued = f.queued;
  dropped = f.dropped;
  tightened = f.tightened;
  fixed = slice_set f.fixed i x;
  rewrote = f.rewrote;
  passes = f.passes;
  dirty = f.dirty;
  coeff_dirty = f.coeff_dirty;
  queue = f.queue;
  wave = f.wave;
  len = f.len;
  folded = f.folded;
  alive = f.alive;
  touched = f.touched;
  binaries = f.binaries;
  fate = f.fate;
  slot = f.slot;
  bad_dec = f.bad_dec;
  bad_inc = f.bad_inc;
  vars = f.vars;
  binary = f.binary;
}

abbrev pub put_rewrote : ℕ → ℕ → Numbers → Numbers
put_rewrote i x f = record {
  queued = f.queued;
  dropped = f.dropped;
  tightened = f.tightened;
  fixed = f.fixed;
  rewrote = slice_set f.rewrote i x;
  passes = f.passes;
  dirty = f.dirty;
  coeff_dirty = f.coeff_dirty;
  queue = f.queue;
  wave = f.wave;
  len = f.len;
  folded = f.folded;
  alive = f.alive;
  touched = f.touched;
  binaries = f.binaries;
  fate = f.fate;
  slot = f.slot;
  bad_dec = f.bad_dec;
  bad_inc = f.bad_inc;
  vars = f.vars;
  binary = f.binary;
}

abbrev pub put_passes : ℕ → ℕ → Numbers → Numbers
put_passes i x f = record {
  queued = f.queued;
  dropped = f.dropped;
  tightened = f.tightened;
  fixed = f.fixed;
  rewrote = f.rewrote;
  passes = slice_set f.passes i x;
  dirty = f.dirty;
  coeff_dirty = f.coeff_dirty;
  queue = f.queue;
  wave = f.wave;
  len = f.len;
  folded = f.folded;
  alive = f.alive;
  touched = f.touched;
  binaries = f.binaries;
  fate = f.fate;
  slot = f.slot;
  bad_dec = f.bad_dec;
  bad_inc = f.bad_inc;
  vars = f.vars;
  binary = f.binary;
}

abbrev pub put_dirty : ℕ → ℕ → Numbers → Numbers
put_dirty i x f = record {
  queued = f.queued;
  dropped = f.dropped;
  tightened = f.tightened;
  fixed = f.fixed;
  rewrote = f.rewrote;
  passes = f.passes;
  dirty = slice_set f.dirty i x;
  coeff_dirty = f.coeff_dirty;
  queue = f.queue;
  wave = f.wave;
  len = f.len;
  folded = f.folded;
  alive = f.alive;
  touched = f.touched;
  binaries = f.binaries;
  fate = f.fate;
  slot = f.slot;
  bad_dec = f.bad_dec;
  bad_inc = f.bad_inc;
  vars = f.vars;
  binary = f.binary;
}

abbrev pub put_coeff_dirty : ℕ → ℕ → Numbers → Numbers
put_coeff_dirty i x f = record {
  queued = f.queued;
  dropped = f.dropped;
  tightened = f.tightened;
  fixed = f.fixed;
  rewrote = f.rewrote;
  passes = f.passes;
  dirty = f.dirty;
  coeff_dirty = slice_set f.coeff_dirty i x;
  queue = f.queue;
  wave = f.wave;
  len = f.len;
  folded = f.folded;
  alive = f.alive;
  touched = f.touched;
  binaries = f.binaries;
  fate = f.fate;
  slot = f.slot;
  bad_dec = f.bad_dec;
  bad_inc = f.bad_inc;
  vars = f.vars;
  binary = f.binary;
}

abbrev pub put_queue : ℕ → ℕ → Numbers → Numbers
put_queue i x f = record {
  queued = f.queued;
  dropped = f.dropped;
  tightened = f.tightened;
  fixed = f.fixed;
  rewrote = f.rewrote;
  passes = f.passes;
  dirty = f.dirty;
  coeff_dirty = f.coeff_dirty;
  queue = slice_set f.queue i x;
  wave = f.wave;
  len = f.len;
  folded = f.folded;
  alive = f.alive;
  touched = f.touched;
  binaries = f.binaries;
  fate = f.fate;
  slot = f.slot;
  bad_dec = f.bad_dec;
  bad_inc = f.bad_inc;
  vars = f.vars;
  binary = f.binary;
}

abbrev pub put_wave : ℕ → ℕ → Numbers → Numbers
put_wave i x f = record {
  queued = f.queued;
  dropped = f.dropped;
  tightened = f.tightened;
  fixed = f.fixed;
  rewrote = f.rewrote;
  passes = f.passes;
  dirty = f.dirty;
  coeff_dirty = f.coeff_dirty;
  queue = f.queue;
  wave = slice_set f.wave i x;
  len = f.len;
  folded = f.folded;
  alive = f.alive;
  touched = f.touched;
  binaries = f.binaries;
  fate = f.fate;
  slot = f.slot;
  bad_dec = f.bad_dec;
  bad_inc = f.bad_inc;
  vars = f.vars;
  binary = f.binary;
}

abbrev pub put_len : ℕ → ℕ → Numbers → Numbers
put_len i x f = record {
  queued = f.queued;
  dropped = f.dropped;
  tightened = f.tightened;
  fixed = f.fixed;
  rewrote = f.rewrote;
  passes = f.passes;
  dirty = f.dirty;
  coeff_dirty = f.coeff_dirty;
  queue = f.queue;
  wave = f.wave;
  len = slice_set f.len i x;
  folded = f.folded;
  alive = f.alive;
  touched = f.touched;
  binaries = f.binaries;
  fate = f.fate;
  slot = f.slot;
  bad_dec = f.bad_dec;
  bad_inc = f.bad_inc;
  vars = f.vars;
  binary = f.binary;
}

abbrev pub put_folded : ℕ → ℕ → Numbers → Numbers
put_folded i x f = record {
  queued = f.queued;
  dropped = f.dropped;
  tightened = f.tightened;
  fixed = f.fixed;
  rewrote = f.rewrote;
  passes = f.passes;
  dirty = f.dirty;
  coeff_dirty = f.coeff_dirty;
  queue = f.queue;
  wave = f.wave;
  len = f.len;
  folded = slice_set f.folded i x;
  alive = f.alive;
  touched = f.touched;
  binaries = f.binaries;
  fate = f.fate;
  slot = f.slot;
  bad_dec = f.bad_dec;
  bad_inc = f.bad_inc;
  vars = f.vars;
  binary = f.binary;
}

abbrev pub put_alive : ℕ → ℕ → Numbers → Numbers
put_alive i x f = record {
  queued = f.queued;
  dropped = f.dropped;
  tightened = f.tightened;
  fixed = f.fixed;
  rewrote = f.rewrote;
  passes = f.passes;
  dirty = f.dirty;
  coeff_dirty = f.coeff_dirty;
  queue = f.queue;
  wave = f.wave;
  len = f.len;
  folded = f.folded;
  alive = slice_set f.alive i x;
  touched = f.touched;
  binaries = f.binaries;
  fate = f.fate;
  slot = f.slot;
  bad_dec = f.bad_dec;
  bad_inc = f.bad_inc;
  vars = f.vars;
  binary = f.binary;
}

abbrev pub put_touched : ℕ → ℕ → Numbers → Numbers
put_touched i x f = record {
  queued = f.queued;
  dropped = f.dropped;
  tightened = f.tightened;
  fixed = f.fixed;
  rewrote = f.rewrote;
  passes = f.passes;
  dirty = f.dirty;
  coeff_dirty = f.coeff_dirty;
  queue = f.queue;
  wave = f.wave;
  len = f.len;
  folded = f.folded;
  alive = f.alive;
  touched = slice_set f.touched i x;
  binaries = f.binaries;
  fate = f.fate;
  slot = f.slot;
  bad_dec = f.bad_dec;
  bad_inc = f.bad_inc;
  vars = f.vars;
  binary = f.binary;
}

abbrev pub put_binaries : ℕ → ℕ → Numbers → Numbers
put_binaries i x f = record {
  queued = f.queued;
  dropped = f.dropped;
  tightened = f.tightened;
  fixed = f.fixed;
  rewrote = f.rewrote;
  passes = f.passes;
  dirty = f.dirty;
  coeff_dirty = f.coeff_dirty;
  queue = f.queue;
  wave = f.wave;
  len = f.len;
  folded = f.folded;
  alive = f.alive;
  touched = f.touched;
  binaries = slice_set f.binaries i x;
  fate = f.fate;
  slot = f.slot;
  bad_dec = f.bad_dec;
  bad_inc = f.bad_inc;
  vars = f.vars;
  binary = f.binary;
}

abbrev pub put_fate : ℕ → ℕ → Numbers → Numbers
put_fate i x f = record {
  queued = f.queued;
  dropped = f.dropped;
  tightened = f.tightened;
  fixed = f.fixed;
  rewrote = f.rewrote;
  passes = f.passes;
  dirty = f.dirty;
  coeff_dirty = f.coeff_dirty;
  queue = f.queue;
  wave = f.wave;
  len = f.len;
  folded = f.folded;
  alive = f.alive;
  touched = f.touched;
  binaries = f.binaries;
  fate = slice_set f.fate i x;
  slot = f.slot;
  bad_dec = f.bad_dec;
  bad_inc = f.bad_inc;
  vars = f.vars;
  binary = f.binary;
}

abbrev pub put_slot : ℕ → ℕ → Numbers → Numbers
put_slot i x f = record {
  queued = f.queued;
  dropped = f.dropped;
  tightened = f.tightened;
  fixed = f.fixed;
  rewrote = f.rewrote;
  passes = f.passes;
  dirty = f.dirty;
  coeff_dirty = f.coeff_dirty;
  queue = f.queue;
  wave = f.wave;
  len = f.len;
  folded = f.folded;
  alive = f.alive;
  touched = f.touched;
  binaries = f.binaries;
  fate = f.fate;
  slot = slice_set f.slot i x;
  bad_dec = f.bad_dec;
  bad_inc = f.bad_inc;
  vars = f.vars;
  binary = f.binary;
}

abbrev pub put_bad_dec : ℕ → ℕ → Numbers → Numbers
put_bad_dec i x f = record {
  queued = f.queued;
  dropped = f.dropped;
  tightened = f.tightened;
  fixed = f.fixed;
  rewrote = f.rewrote;
  passes = f.passes;
  dirty = f.dirty;
  coeff_dirty = f.coeff_dirty;
  queue = f.queue;
  wave = f.wave;
  len = f.len;
  folded = f.folded;
  alive = f.alive;
  touched = f.touched;
  binaries = f.binaries;
  fate = f.fate;
  slot = f.slot;
  bad_dec = slice_set f.bad_dec i x;
  bad_inc = f.bad_inc;
  vars = f.vars;
  binary = f.binary;
}

abbrev pub put_bad_inc : ℕ → ℕ → Numbers → Numbers
put_bad_inc i x f = record {
  queued = f.queued;
  dropped = f.dropped;
  tightened = f.tightened;
  fixed = f.fixed;
  rewrote = f.rewrote;
  passes = f.passes;
  dirty = f.dirty;
  coeff_dirty = f.coeff_dirty;
  queue = f.queue;
  wave = f.wave;
  len = f.len;
  folded = f.folded;
  alive = f.alive;
  touched = f.touched;
  binaries = f.binaries;
  fate = f.fate;
  slot = f.slot;
  bad_dec = f.bad_dec;
  bad_inc = slice_set f.bad_inc i x;
  vars = f.vars;
  binary = f.binary;
}

abbrev pub put_vars : ℕ → ℕ → Numbers → Numbers
put_vars i x f = record {
  queued = f.queued;
  dropped = f.dropped;
  tightened = f.tightened;
  fixed = f.fixed;
  rewrote = f.rewrote;
  passes = f.passes;
  dirty = f.dirty;
  coeff_dirty = f.coeff_dirty;
  queue = f.queue;
  wave = f.wave;
  len = f.len;
  folded = f.folded;
  alive = f.alive;
  touched = f.touched;
  binaries = f.binaries;
  fate = f.fate;
  slot = f.slot;
  bad_dec = f.bad_dec;
  bad_inc = f.bad_inc;
  vars = slice_set f.vars i x;
  binary = f.binary;
}

abbrev pub put_binary : ℕ → ℕ → Numbers → Numbers
put_binary i x f = record {
  queued = f.queued;
  dropped = f.dropped;
  tightened = f.tightened;
  fixed = f.fixed;
  rewrote = f.rewrote;
  passes = f.passes;
  dirty = f.dirty;
  coeff_dirty = f.coeff_dirty;
  queue = f.queue;
  wave = f.wave;
  len = f.len;
  folded = f.folded;
  alive = f.alive;
  touched = f.touched;
  binaries = f.binaries;
  fate = f.fate;
  slot = f.slot;
  bad_dec = f.bad_dec;
  bad_inc = f.bad_inc;
  vars = f.vars;
  binary = slice_set f.binary i x;
}

-- the slices are long enough
abbrev pub HoldsF : Context → List Float → Type 0
HoldsF s l = 4 * s.vars + 8 * s.rows + s.terms ≤ length l

abbrev pub HoldsN : Context → List ℕ → Type 0
HoldsN s l = 6 + 10 * s.rows + 3 * s.vars + 2 * s.terms ≤ length l
