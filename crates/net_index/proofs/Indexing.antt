-- What an index holds, and what it answers.
use Rattle.std.proofs.Common.{◌≡◌, List, ◌++◌, Option, Some, None, option_map, unwrap_or, refl, ◌∙◌, ap}
use Rattle.std.specs.Option.{option_or}
use Rattle.rtl_sig.specs.declared.sig.WireBit.{WireBit}
use Rattle.rtl_ir.specs.Drivers.{Drive, Source, driver_in}
use Rattle.net_index.specs.declared.driver.Driver.{Driver}
use Rattle.net_index.specs.declared.driver.Driver.TheVariants.{Nothing}
use Rattle.net_index.specs.declared.index_table.BitTable.{BitTable}
use Rattle.net_index.specs.Driver.{driver_by, driver_answer}
use Rattle.net_index.specs.DriverFill.{Adds}
use Rattle.net_index.specs.IndexTable.{at_bit}
use Rattle.net_index.proofs.IndexDrives.{adds_append}

-- a driver that the table has is answered, and nothing else
pub answer_is : (o : Option Source) → unwrap_or (option_map driver_by o) Nothing ≡ driver_answer o
answer_is None = refl
answer_is (Some s) = refl

-- one list of drives behind another
pub adds_both : (t mid new : BitTable Driver) (xs ys : List Drive) → Adds t xs mid → Adds mid ys new → Adds t (xs ++ ys) new
adds_both t mid new xs ys h k b = k b ∙ adds_append t mid xs ys h b

-- in a table that had nothing
pub adds_alone : (t new : BitTable Driver) (ds : List Drive) → ((b : WireBit) → at_bit t b ≡ None) → Adds t ds new
    → (b : WireBit) → at_bit new b ≡ option_map driver_by (driver_in ds b)
adds_alone t new ds none h b = h b ∙ ap (λ o. option_or o (option_map driver_by (driver_in ds b))) (none b)
