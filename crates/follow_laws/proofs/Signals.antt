-- Followed signals: what stands at the pins of a followed cell, with which widths, on which wires.
use Rattle.std.proofs.Common.{◌≡◌, ℕ, zero, suc, Bool, true, false, cond, List, [], ◌∷◌, length, Option, Some, None, inl, inr, ⊎_elim, refl, sym, ◌∙◌, ap, subst}
use Rattle.std.specs.Prelude.{if◌then◌else◌, find, map, unwrap_or}
use Rattle.std.specs.Option.{option_map_or}
use Rattle.std.specs.Str.{bytes_eq}
use Rattle.std.proofs.lemmas.Slice.Eq.{bytes_eq-Decides}
use Rattle.cell_types.specs.PinName.{pin_text}
use Rattle.cell_types.specs.declared.kind.CellKind.{CellKind}
use Rattle.cell_types.specs.declared.pin_name.PinName.{PinName}
use Rattle.rtl_sig.specs.declared.sig.SigBit.{SigBit}
use Rattle.rtl_sig.specs.declared.sig.SigBit.TheVariants as sig
use Rattle.rtl_ir.specs.declared.cell.Cell.{Cell}
use Rattle.rtl_ir.specs.declared.cell.Pin.{Pin}
use Rattle.rtl_ir.specs.declared.module.Link.{Link}
use Rattle.rtl_ir.specs.Follow.{all_joins, back, end_within, follow, follow_joins, joins}
use Rattle.rtl_ir.specs.declared.follow.Join.{Join}
use Rattle.rtl_ir.specs.Flat.Cell.{cell_kind}
use Rattle.rtl_ir.specs.Outputs.{drives_pin, output_pin}
use Rattle.rtl_ir.specs.Parameters.{signal_at}
use Rattle.rtl_ir.specs.Types.{CellType, Ports, cell_type}
use Rattle.net_model.specs.Lists.{In}
use Rattle.net_model.specs.Within.{BitIn, CellIn, Each, LinkIn, SigIn}
use Rattle.net_model.proofs.Members.{In-cases, In-mapped}
use Rattle.pass_laws.proofs.Faultless.{type_is}
use Rattle.pass_laws.proofs.Outputs.{drives_own}
use Rattle.follow_laws.specs.Inputs.{followed_at, followed_cell, followed_pin}
use Rattle.follow_laws.proofs.Following.{source_in}

-- what stands at a pin of a followed cell
pub signal_followed : (type : CellType) (links : List Link) (name : List ℕ) (pins : List Pin) → signal_at (map (followed_pin type links) pins) name ≡ followed_at type links name (signal_at pins name)
signal_followed type links name [] = by (drives_pin type name)
  where
    by : (t : Bool) → [] ≡ (if t then [] else map (follow links) [])
    by true = refl
    by false = refl
signal_followed type links name (q ∷ qs) = by (bytes_eq q.name name) refl (signal_followed type links name qs)
  where
    by : (t : Bool) → bytes_eq q.name name ≡ t → signal_at (map (followed_pin type links) qs) name ≡ followed_at type links name (signal_at qs name) → option_map_or (λ (p : Pin). p.sig) (cond t (Some (followed_pin type links q)) (find (λ (p : Pin). bytes_eq p.name name) (map (followed_pin type links) qs))) [] ≡ followed_at type links name (option_map_or (λ (p : Pin). p.sig) (cond t (Some q) (find (λ (p : Pin). bytes_eq p.name name) qs)) [])
    by true e later = ap (λ z. followed_at type links z q.sig) ((bytes_eq-Decides q.name name).0 e)
    by false e later = later

map_length : (f : SigBit → SigBit) (signal : List SigBit) → length (map f signal) ≡ length signal
map_length f [] = refl
map_length f (s ∷ signal) = ap suc (map_length f signal)

-- the width stays
pub length_followed : (type : CellType) (links : List Link) (name : List ℕ) (signal : List SigBit) → length (followed_at type links name signal) ≡ length signal
length_followed type links name signal = by (drives_pin type name)
  where
    by : (t : Bool) → length (if t then signal else map (follow links) signal) ≡ length signal
    by true = refl
    by false = map_length (follow links) signal

-- a pin that is driven stays
pub driven_stays : (type : CellType) (links : List Link) (name : List ℕ) (signal : List SigBit) → drives_pin type name ≡ true → followed_at type links name signal ≡ signal
driven_stays type links name signal e = ap (λ t. if t then signal else map (follow links) signal) e

-- a followed cell is of the kind of the cell
pub kind_stays : (ports : Ports) (links : List Link) (c : Cell) → cell_kind (followed_cell ports links c) ≡ cell_kind c
unfolding cell_kind
kind_stays ports links c = refl

-- what a cell of the library drives is not followed
pub output_stays : (ports : Ports) (links : List Link) (c : Cell) (kind : CellKind) → cell_kind c ≡ Some kind → (name : PinName) → output_pin kind ≡ Some name → signal_at (followed_cell ports links c).pins (pin_text name) ≡ signal_at c.pins (pin_text name)
output_stays ports links c kind own name e =
    let type : CellType = cell_type ports c.kind_name in
    let drives : drives_pin type (pin_text name) ≡ true = ap (λ t. drives_pin t (pin_text name)) (type_is ports c kind own) ∙ drives_own kind name e (pin_text name) ∙ (bytes_eq-Decides (pin_text name) (pin_text name)).1 refl in
    signal_followed type links (pin_text name) c.pins ∙ driven_stays type links (pin_text name) (signal_at c.pins (pin_text name)) drives

module _ (count : ℕ) (links : List Link) (fine : Each (LinkIn count) links) where
  source_of_join : (left right : List SigBit) → SigIn count right → (j : Join) → In j (joins left right) → BitIn count j.source
  source_of_join [] right h j i = absurd i
  source_of_join (l ∷ left) [] h j i = absurd i
  source_of_join (sig.Fixed c ∷ left) (r ∷ right) h j i = source_of_join left right (λ x k. h x (inr k)) j i
  source_of_join (sig.Wire b ∷ left) (r ∷ right) h j (inl e) = subst (λ z. BitIn count z.source) (sym e) (h r (inl refl))
  source_of_join (sig.Wire b ∷ left) (r ∷ right) h j (inr i) = source_of_join left right (λ x k. h x (inr k)) j i

  source_of_all : (ls : List Link) → Each (LinkIn count) ls → (j : Join) → In j (all_joins ls) → BitIn count j.source
  source_of_all [] h j i = absurd i
  source_of_all (l ∷ ls) h j i =
      ⊎_elim
      (λ a. source_of_join l.left l.right (h l (inl refl)).1 j a)
      (λ b. source_of_all ls (λ x k. h x (inr k)) j b)
      (In-cases j (joins l.left l.right) (all_joins ls) i)

  back_in : (s r : SigBit) → back (all_joins links) s ≡ Some r → BitIn count r
  back_in (sig.Fixed c) r e = absurd (cc)
  back_in (sig.Wire b) r e = source_of_all links fine (record { bit = b; source = r }) (source_in (all_joins links) b r e)

  end_in : (n : ℕ) (s e : SigBit) → BitIn count s → end_within (all_joins links) n s ≡ Some e → BitIn count e
  end_in zero s e h f = by (back (all_joins links) s) f
    where
      by : (o : Option SigBit) → option_map_or (λ (r : SigBit). None) o (Some s) ≡ Some e → BitIn count e
      by None g = let same : s ≡ e = cc in subst (BitIn count) same h
      by (Some r) g = absurd (cc)
  end_in (suc n) s e h f = by (back (all_joins links) s) refl f (λ r. end_in n r e)
    where
      by : (o : Option SigBit) → back (all_joins links) s ≡ o → option_map_or (end_within (all_joins links) n) o (Some s) ≡ Some e → ((r : SigBit) → BitIn count r → end_within (all_joins links) n r ≡ Some e → BitIn count e) → BitIn count e
      by None q g go = let same : s ≡ e = cc in subst (BitIn count) same h
      by (Some r) q g go = go r (back_in s r q) g

  -- what a bit follows to is on one of the wires
  pub follow_in : (s : SigBit) → BitIn count s → BitIn count (follow links s)
  unfolding follow_joins
  follow_in s h = by (end_within (all_joins links) (length (all_joins links)) s) refl
    where
      by : (o : Option SigBit) → end_within (all_joins links) (length (all_joins links)) s ≡ o → BitIn count (unwrap_or o s)
      by None e = h
      by (Some r) e = end_in (length (all_joins links)) s r h e

  at_in : (type : CellType) (name : List ℕ) (signal : List SigBit) → SigIn count signal → SigIn count (followed_at type links name signal)
  at_in type name signal h = by (drives_pin type name)
    where
      by : (t : Bool) → SigIn count (if t then signal else map (follow links) signal)
      by true = h
      by false = λ x i. let k = In-mapped (follow links) x signal i in subst (BitIn count) (sym k.2) (follow_in k.0 (h k.0 k.1))

  pub cell_in : (ports : Ports) (c : Cell) → CellIn count c → CellIn count (followed_cell ports links c)
  cell_in ports c h x i =
      let type : CellType = cell_type ports c.kind_name in
      let k = In-mapped (followed_pin type links) x c.pins i in
      subst (λ (pin : Pin). SigIn count pin.sig) (sym k.2) (at_in type k.0.name k.0.sig (h k.0 k.1))
