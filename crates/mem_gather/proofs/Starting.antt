-- Start words: from unknown bits, cell by cell, as cells see them.
use Rattle.std.proofs.Common.{◌≡◌, ℕ, zero, suc, ◌+◌, ◌<◌, List, [], ◌∷◌, ◌++◌, length, map, take, get_or, replicate, refl, sym, ◌∙◌, ap, arith, add-one, take-suc, Result, Ok, Err, IfOk}
use Rattle.std.specs.Prelude.{nat_abs}
use Rattle.std.specs.List.{range_with_len}
use Rattle.rtl_bits.specs.declared.bit.Bit.{Bit}
use Rattle.rtl_bits.specs.declared.bit.Bit.TheVariants.{X}
use Rattle.rtl_bits.specs.Tables.{seen_of}
use Rattle.cell_types.specs.declared.param_name.ParamName.TheVariants as Param
use Rattle.rtl_ir.specs.declared.cell.Cell.{Cell}
use Rattle.rtl_ir.specs.declared.store.Store.{Store}
use Rattle.rtl_ir.specs.Faults.MemoryCells.{first_address, number_at}
use Rattle.rtl_ir.specs.Flat.Memory.{init_bit_of, init_bits_of, init_cells}
use Rattle.net_model.specs.Mem.Gather.{words_of}
use Rattle.mem_gather.specs.Tables.{after, below, put_start, started, table}
use Rattle.mem_gather.proofs.Tabling.{ends_below, one_filled, put_goes, starts_below, table_same}

module _ (base size width : ℕ) (c : Cell) (f : ℕ → ℕ → Bit) (n : ℕ) (is : n ≡ first_address c) where
  pub words_begin : (words : List (List Bit)) → words ≡ table base size width f → words ≡ table base size width (below width c (n + 0) f)
  words_begin words e =
      let place : first_address c ≡ n + 0 = omega (arith, is) in
      e ∙ table_same base size width f (below width c (first_address c) f) (λ a t _ _. starts_below width c f a t) ∙ ap (λ m. table base size width (below width c m f)) place

  pub words_go : (k : ℕ) → k < number_at c Param.Words → (words new : List (List Bit)) → words ≡ table base size width (below width c (n + k) f) → new ≡ put_start base width c (n + k) k words → new ≡ table base size width (below width c (n + (k + 1)) f)
  words_go k more words new so made =
      made
      ∙ ap (put_start base width c (n + k) k) so
      ∙ (λ i. put_start base width c (is i + k) k (table base size width (below width c (is i + k) f)))
      ∙ put_goes width c f k more base size
      ∙ (λ i. table base size width (below width c (sym is i + (k + 1)) f))

  pub words_end : (k : ℕ) → k ≡ number_at c Param.Words → (words : List (List Bit)) → words ≡ table base size width (below width c (n + k) f) → words ≡ table base size width (after width c f)
  words_end k all words so =
      so ∙ (λ i. table base size width (below width c (is i + all i) f))
      ∙ table_same base size width (below width c (first_address c + number_at c Param.Words) f) (after width c f) (λ a t _ _. ends_below width c f a t)

pub all_unknown : (base size width : ℕ) (words : List (List Bit)) → words ≡ replicate size (replicate width X) → words ≡ table base size width (started width [])
all_unknown base size width words e =
    e ∙ ap (replicate size) (one_filled X 0 width) ∙ one_filled (map (λ t. X) (range_with_len 0 width)) base size

-- a cell more
cell_more : (width : ℕ) (cells : List Cell) (c : Cell) (a t : ℕ) (old : Bit) → init_bit_of width c a t (init_bits_of width cells a t old) ≡ init_bits_of width (cells ++ c ∷ []) a t old
cell_more width [] c a t old = refl
cell_more width (d ∷ cells) c a t old = cell_more width cells c a t (init_bit_of width d a t old)

pub started_more : (base size width : ℕ) (cells : List Cell) (c : Cell) → table base size width (after width c (started width cells)) ≡ table base size width (started width (cells ++ c ∷ []))
started_more base size width cells c =
    table_same base size width (after width c (started width cells)) (started width (cells ++ c ∷ [])) (λ a t _ _. cell_more width cells c a t X)

-- words as cells see them
seen_maps : (f : ℕ → Bit) (a n : ℕ) → map seen_of (map f (range_with_len a n)) ≡ map (λ t. seen_of (f t)) (range_with_len a n)
seen_maps f a zero = refl
seen_maps f a (suc n) = ap (λ bs. seen_of (f a) ∷ bs) (seen_maps f (a + 1) n)

seen_tables : (f : ℕ → ℕ → Bit) (width base size : ℕ) → map (map seen_of) (table base size width f) ≡ table base size width (λ a t. seen_of (f a t))
seen_tables f width base zero = refl
seen_tables f width base (suc size) = (λ i. seen_maps (f base) 0 width i ∷ seen_tables f width (base + 1) size i)

pub words_are : (s : Store) (cells : List Cell) → map (map seen_of) (table (nat_abs s.offset) (nat_abs s.size) s.width (started s.width (init_cells s.name cells))) ≡ words_of s cells
words_are s cells = seen_tables (started s.width (init_cells s.name cells)) s.width (nat_abs s.offset) (nat_abs s.size)

-- a cell more at a place
pub cell_goes : (from base size width : ℕ) (cells : List Cell) (at : ℕ) (item c : Cell) (old new : List (List Bit)) → from ≡ base → c ≡ item → at < length cells → item ≡ get_or cells at item
    → ((n : ℕ) (f : ℕ → ℕ → Bit) → old ≡ table from n width f → new ≡ table from n width (after width c f)) → old ≡ table base size width (started width (take at cells)) → new ≡ table base size width (started width (take (at + 1) cells))
cell_goes from base size width cells at item c old new eb ec h is puts so =
    let more : take (at + 1) cells ≡ take at cells ++ item ∷ [] = ap (λ n. take n cells) (add-one at) ∙ take-suc cells at item h ∙ ap (λ d. take at cells ++ d ∷ []) (sym is) in
    puts size (started width (take at cells)) (so ∙ ap (λ b. table b size width (started width (take at cells))) (sym eb))
    ∙ (λ i. table (eb i) size width (after width (ec i) (started width (take at cells))))
    ∙ started_more base size width (take at cells) item
    ∙ ap (λ cs. table base size width (started width cs)) (sym more)

-- what is so of the value of a result
pub if_ok : {A E : Type 0} (r : Result A E) (P Q : A → Type 0) → ((x : A) → P x → Q x) → IfOk r P → IfOk r Q
if_ok (Ok x) P Q f h = f x h
if_ok (Err e) P Q f h = tt
