-- The copying of cells, as the code holds it.
use Rattle.flat_pass.specs.ByName.{names_now}
use Rattle.flat_pass.specs.Copies.{Copying}
use Rattle.flat_pass.specs.declared.renames.Renames.{Renames}

-- the copying that this is
abbrev pub copying : Renames → Copying
copying r = record {
  instance = r.instance.now;
  first = r.first;
  memories = names_now r.memories.items;
  copies = r.copies;
}
