-- What the text of a key's further modules is read as.
use Rattle.std.proofs.Common.{◌≡◌, List, ℕ, Result, Ok, Err, sym, subst, ◌∙◌}
use Rattle.rtl_ir.specs.declared.module.Design.{Design}
use Rattle.rtl_read.specs.declared.read_fault.ReadFault.{ReadFault}
use Rattle.rtl_read.specs.declared.read_fault.ReadFault.TheVariants as faults
use Rattle.rtl_read.specs.Gives.{Gives}
use Rattle.rtl_read.specs.Reads.{Reads}
use Rattle.rtl_readable.specs.Readable.{IsReadable}
use Rattle.rtl_write.specs.Text.{text_of}
use Rattle.rtl_write.proofs.Trip.{reads_design}

-- the text of a readable design gives it
pub written : (d : Design) (below items : List ℕ) → IsReadable d → below ≡ text_of d → items ≡ below → Reads items d
written d below items good is same = subst (λ (t : List ℕ). Reads t d) (sym (same ∙ is)) (reads_design d good)

pub design_given : (d : Design) (answer : Result Design ReadFault) (read : Design) → Gives answer (Ok d) → answer ≡ Ok read → read ≡ d
design_given d (Ok other) read gives e = cc
design_given d (Err fault) read gives e = absurd cc
