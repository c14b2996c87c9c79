-- A module to which connections are added, as the code holds it.
use Rattle.std.proofs.Common.{◌≡◌, ℕ, ◌++◌, List, ◌∙◌, ap}
use Rattle.rtl_ir.specs.declared.cell.Pin.{Pin}
use Rattle.rtl_ir.specs.declared.module.Link.{Link}
use Rattle.rtl_ir.specs.declared.module.Module.{Module}
use Rattle.rtl_ir.specs.Build.{Building}
use Rattle.flat_pass.specs.Counts.{AreNames}
use Rattle.flat_pass.specs.Flat.{links_of, put_links}
use Rattle.flat_pass.specs.declared.namer.Namer.{Namer}

-- the module with the connections that come with an instance, whose pins were read as a list
pub links_put : (b : Building) (first : ℕ) (child : Module) (pins text : List Pin) (links : List Link) → text ≡ pins → links ≡ b.body.links ++ links_of first child text → ◌≡◌ {A = Building} (record { body = record b.body { links = links }; next = b.next }) (put_links (links_of first child pins) b)
links_put b first child pins text links read made =
    let all : links ≡ b.body.links ++ links_of first child pins = made ∙ ap (λ t. b.body.links ++ links_of first child t) read in
    λ i. record { body = record b.body { links = all i }; next = b.next }

-- its names are the same
pub links_names : (namer : Namer) (b : Building) (links : List Link) → AreNames namer b → AreNames namer (record { body = record b.body { links = links }; next = b.next })
links_names namer b links h = record { counts = h.counts; next = h.next; small = h.small }
