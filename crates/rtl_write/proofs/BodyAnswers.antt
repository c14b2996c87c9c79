-- What the text of a module's body is read as, with a name put back into it.
use Rattle.std.proofs.Common.{◌≡◌, ℕ, List, [], ◌∷◌, IfOk, Result, Ok, Err, refl, sym, ap, subst, ◌∙◌}
use Rattle.rtl_ir.specs.declared.module.Module.{Module}
use Rattle.rtl_ir.specs.declared.module.Design.{Design}
use Rattle.rtl_bits.specs.declared.memory.Memory.{Memory}
use Rattle.rtl_read.specs.declared.read_fault.ReadFault.{ReadFault}
use Rattle.rtl_read.specs.declared.read_fault.ReadFault.TheVariants as faults
use Rattle.rtl_read.specs.Gives.{Gives, Fails}
use Rattle.rtl_read.specs.Reads.{Reads}
use Rattle.rtl_write.specs.Text.{body_text}
use Rattle.rtl_readable.specs.Readable.{IsReadableModule}
use Rattle.rtl_write.specs.Bodies.{with_name}
use Rattle.rtl_write.proofs.BodyLaws.{alone, reads_named}

-- the name that stands there
abbrev pub some_name : List ℕ
some_name = 92 ∷ 109 ∷ []

abbrev pub named : Module → Module
named m = record m { id = some_name }

pub given : (m : Module) (text items : List ℕ) → IsReadableModule m → text ≡ body_text m → items ≡ with_name some_name text → Reads items (alone (named m))
given m text items is e put =
    subst (λ (t : List ℕ). Reads t (alone (named m))) (ap (with_name some_name) (sym e) ∙ sym put) (reads_named m some_name is refl)

pub modules_given : (m : Module) (answer : Result Design ReadFault) (design : Design) → Gives answer (Ok (alone (named m))) → answer ≡ Ok design → design.modules ≡ named m ∷ []
modules_given m (Ok other) design gives e =
    let one : alone (named m) ≡ other = cc in
    let two : other ≡ design = cc in
    ap (λ (d : Design). d.modules) (sym (one ∙ two))
modules_given m (Err fault) design gives e = absurd cc

-- a text that is read is refused only where memory runs out
fails : (m : Module) (fault : ReadFault) → Fails fault (Ok (alone (named m))) → fault ≡ faults.Memory
fails m faults.Memory e = refl
fails m (faults.Lex p) e = absurd cc
fails m (faults.Syntax p) e = absurd cc
fails m (faults.Int p) e = absurd cc
fails m (faults.Duplicate p) e = absurd cc
fails m (faults.UnknownName p) e = absurd cc
fails m (faults.Range p) e = absurd cc
fails m (faults.Limit p) e = absurd cc

pub refused_memory : (m : Module) (answer : Result Design ReadFault) (fault : ReadFault) → Gives answer (Ok (alone (named m))) → answer ≡ Err fault → fault ≡ faults.Memory
refused_memory m (Ok other) fault gives e = absurd cc
refused_memory m (Err other) fault gives e =
    let same : other ≡ fault = cc in
    sym same ∙ fails m other gives

pub no_answer : {X : Type 0} (P : X → Type 0) (r : Result X Memory) (refused : Type 0) → refused → IfOk r (λ _. ¬ refused) → IfOk r P
no_answer P (Ok x) refused is not = absurd (not is)
no_answer P (Err e) refused is not = tt
