-- A module that a pass may be given is one with followed inputs.
use Rattle.std.proofs.Common.{◌≡◌, List, [], ◌∷◌, ◌++◌, length, ◌⊎◌, inl, inr, refl, sym, ◌∙◌, ap, subst, arith}
use Rattle.rtl_ir.specs.declared.cell.Cell.{Cell}
use Rattle.rtl_ir.specs.declared.module.Link.{Link}
use Rattle.rtl_ir.specs.declared.module.Module.{Module}
use Rattle.rtl_ir.specs.Types.{Ports, cell_type}
use Rattle.net_model.specs.Swap.{with_cells}
use Rattle.net_model.specs.Within.{CellIn, Each}
use Rattle.pass_laws.specs.Bits.{cells_bits, links_bits, pin_bits}
use Rattle.pass_laws.specs.Ready.{IsReady}
use Rattle.pass_laws.proofs.Alone.{IsSound}
use Rattle.pass_laws.proofs.Counting.{count}
use Rattle.pass_laws.proofs.Forming.{own_accesses, own_cells, own_links, ready_with}
use Rattle.follow_laws.specs.Inputs.{MayFollow, followed_cell}
use Rattle.follow_laws.proofs.Faultless.{accesses_follow, bits_stay, followed_sound}
use Rattle.follow_laws.proofs.Signals.{cell_in}

-- what holds of cells and stays where inputs are followed holds of each as it is or followed
each_stays : (ports : Ports) (links : List Link) (P : Cell → Type 0) → ((c : Cell) → P c → P (followed_cell ports links c)) → (cs ds : List Cell) → MayFollow ports links cs ds → Each P cs → Each P ds
each_stays ports links P stays [] [] may h d i = absurd i
each_stays ports links P stays (c ∷ cs) (d ∷ ds) may h x (inl e) = subst P (sym e) (by may.0)
  where
    by : (c ≡ d) ⊎ (followed_cell ports links c ≡ d) → P d
    by (inl f) = subst P f (h c (inl refl))
    by (inr f) = subst P f (stays c (h c (inl refl)))
each_stays ports links P stays (c ∷ cs) (d ∷ ds) may h x (inr i) = each_stays ports links P stays cs ds may.1 (λ z j. h z (inr j)) x i
each_stays ports links P stays [] (d ∷ ds) may h x i = absurd may
each_stays ports links P stays (c ∷ cs) [] may h x i = absurd may

-- the cells drive the same bits
same_bits : (ports : Ports) (links : List Link) (cs ds : List Cell) → MayFollow ports links cs ds → cells_bits ports ds ≡ cells_bits ports cs
same_bits ports links [] [] may = refl
same_bits ports links (c ∷ cs) (d ∷ ds) may =
    ap (λ z. z ++ cells_bits ports ds) (by may.0) ∙ ap (λ z. pin_bits (cell_type ports c.kind_name) c.pins ++ z) (same_bits ports links cs ds may.1)
  where
    by : (c ≡ d) ⊎ (followed_cell ports links c ≡ d) → pin_bits (cell_type ports d.kind_name) d.pins ≡ pin_bits (cell_type ports c.kind_name) c.pins
    by (inl e) = ap (λ z. pin_bits (cell_type ports z.kind_name) z.pins) (sym e)
    by (inr e) =
        ap (λ z. pin_bits (cell_type ports z.kind_name) z.pins) (sym e) ∙ bits_stay (cell_type ports c.kind_name) links c.pins
same_bits ports links [] (d ∷ ds) may = absurd may
same_bits ports links (c ∷ cs) [] may = absurd may

pub ready : (ports : Ports) (m : Module) (cells : List Cell) → MayFollow ports m.links m.cells cells → IsReady ports m → IsReady ports (with_cells cells m)
ready ports m cells may h = ready_with ports m h cells m.links (record {
  cells = each_stays ports m.links (IsSound ports) (followed_sound ports m.links) m.cells cells may (own_cells ports m h);
  accesses = accesses_follow ports m.links m [] [] (λ name. refl) m.cells cells may (own_accesses ports m h);
  links = own_links ports m h;
  cells_within = each_stays ports m.links (CellIn (length m.wires)) (cell_in (length m.wires) m.links h.within.links ports) m.cells cells may h.within.cells;
  links_within = h.within.links;
  fewer = λ b. let same : count b (cells_bits ports cells ++ links_bits m.links) ≡ count b (cells_bits ports m.cells ++ links_bits m.links) = ap (λ z. count b (z ++ links_bits m.links)) (same_bits ports m.links m.cells cells may) in omega arith;
})
