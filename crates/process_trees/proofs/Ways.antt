-- Ways back through connections that meet a bit.
use Rattle.std.proofs.Common.{◌≡◌, ℕ, zero, suc, Bool, true, false, cond, ◌||◌, List, [], ◌∷◌, ◌++◌, map, Option, Some, None, option_map, refl, ◌∙◌, ap}
use Rattle.std.specs.Prelude.{find}
use Rattle.std.specs.Option.{option_map_or}
use Rattle.std.proofs.lemmas.List.{append-nil}
use Rattle.rtl_sig.specs.declared.sig.SigBit.{SigBit}
use Rattle.rtl_sig.specs.declared.sig.SigBit.TheVariants as sig
use Rattle.rtl_sig.specs.declared.sig.WireBit.{WireBit}
use Rattle.rtl_ir.specs.declared.module.Link.{Link}
use Rattle.rtl_ir.specs.Drivers.{Drive, FromLink, driver_in, drives_of, link_drives}
use Rattle.rtl_ir.specs.EventTests.{is_bit, meets_within}
use Rattle.rtl_ir.specs.Follow.{all_joins, back, source_at}
use Rattle.rtl_ir.specs.declared.follow.Join.{Join}
use Rattle.rtl_ir.specs.Signals.{same_bit}
use Rattle.rtl_ir.specs.Types.{table_ports}
use Rattle.net_index.specs.declared.driver.Driver.{Driver}
use Rattle.net_index.specs.Driver.{driver_answer}
use Rattle.process_trees.specs.Tables.{linked, links_alone}

pub meets_here : (js : List Join) (k : ℕ) (b : WireBit) (s : SigBit) → is_bit b s ≡ true → meets_within js k b s ≡ true
meets_here js zero b s e = e
meets_here js (suc k) b s e = ap (λ t. t || option_map_or (meets_within js k b) (back js s) false) e

pub meets_end : (js : List Join) (k : ℕ) (b : WireBit) (s : SigBit) → is_bit b s ≡ false → back js s ≡ None → meets_within js k b s ≡ false
meets_end js zero b s e none = e
meets_end js (suc k) b s e none = (λ i. e i || option_map_or (meets_within js k b) (none i) false)

pub meets_on : (js : List Join) (k : ℕ) (b : WireBit) (s next : SigBit) → is_bit b s ≡ false → back js s ≡ Some next → meets_within js (suc k) b s ≡ meets_within js k b next
meets_on js k b s next e some = (λ i. e i || option_map_or (meets_within js k b) (some i) false)

-- the first connection of a bit drives it
link_driver : (js : List Join) (b : WireBit) → driver_in (map (λ (j : Join). record { bit = j.bit; source = FromLink j.source }) js) b ≡ option_map FromLink (source_at js b)
link_driver [] b = refl
link_driver (j ∷ js) b = by (same_bit j.bit b) (link_driver js b)
  where
    by : (t : Bool) → driver_in (map (λ (j : Join). record { bit = j.bit; source = FromLink j.source }) js) b ≡ option_map FromLink (source_at js b)
        → option_map (λ (d : Drive). d.source) (cond t (Some (record { bit = j.bit; source = FromLink j.source })) (find (λ (d : Drive). same_bit d.bit b) (map (λ (j : Join). record { bit = j.bit; source = FromLink j.source }) js)))
        ≡ option_map FromLink (cond t (Some j.source) (source_at js b))
    by true rest = refl
    by false rest = rest

alone : (links : List Link) → drives_of (table_ports []) (links_alone links) ≡ link_drives links
alone links = append-nil (link_drives links ++ []) ∙ append-nil (link_drives links)

answered : (o : Option SigBit) → linked (driver_answer (option_map FromLink o)) ≡ o
answered None = refl
answered (Some s) = refl

-- what drives a bit in the module of the connections alone is its first connection
pub link_back : (links : List Link) (b : WireBit) (d : Driver) → d ≡ driver_answer (driver_in (drives_of (table_ports []) (links_alone links)) b) → linked d ≡ back (all_joins links) (sig.Wire b)
link_back links b d e =
    ap linked e
    ∙ ap (λ ds. linked (driver_answer (driver_in ds b))) (alone links)
    ∙ ap (λ o. linked (driver_answer o)) (link_driver (all_joins links) b)
    ∙ answered (source_at (all_joins links) b)
