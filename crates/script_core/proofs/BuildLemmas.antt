-- What a build reads of a key.
use Rattle.std.proofs.Common.{◌≡◌, ℕ, suc, zero, ◌<◌, List, [], ◌∷◌, length, Option, Some, Result, Ok, Err, inl, inr, refl, sym, ap, subst, ◌∙◌, arith}
use Rattle.std.specs.Prelude.{slice_get, IfOk, unwrap_or, map}
use Rattle.std.specs.List.{All}
use Rattle.std.specs.Option.{option_map}
use Rattle.std.proofs.lemmas.List.Elements.{All-head, All-tail}
use Rattle.rtl_ir.specs.declared.module.Design.{Design}
use Rattle.rtl_ir.specs.Faults.{check_faults}
use Rattle.rtl_readable.specs.Readable.{IsReadable}
use Rattle.rtl_ir.specs.declared.module.Module.{Module}
use Rattle.rtl_ir.specs.Ports.{cells_at, instances_of, ports_by_module, port_table_of}
use Rattle.rtl_write.specs.Text.{body_text}
use Rattle.net_model.specs.Lists.{In}
use Rattle.script_core.specs.declared.word.Word.{Word}
use Rattle.script_core.specs.Built.{IsAcceptedKey}
use Rattle.script_core.specs.Reached.{table_of}
use Rattle.script_core.specs.Keys.{KeyParts, body_text_at, key_of}

-- the module at a place of a design, with its table
pub record IsAt (modules : List Module) (at : ℕ) : Type 0 where
  pub m : Module
  pub member : In m modules
  pub there : slice_get modules at ≡ Some m
  pub body : body_text_at modules at ≡ body_text m
  pub ports : port_table_of modules at ≡ (table_of modules m).modules
  pub cells : cells_at modules at ≡ m.cells

member_at : (ms : List Module) (at : ℕ) → at < length ms → (m : Module) × In m ms × (slice_get ms at ≡ Some m)
member_at [] at h = absurd (omega arith)
member_at (m ∷ ms) zero h = (m, inl refl, refl)
member_at (m ∷ ms) (suc at) h = let more = member_at ms at (omega arith) in (more.0, inr more.1, more.2)

pub module_at : (modules : List Module) (at : ℕ) → at < length modules → IsAt modules at
module_at modules at h =
    let found = member_at modules at h in
    record {
      m = found.0;
      member = found.1;
      there = found.2;
      body = ap (λ (o : Option Module). unwrap_or (option_map body_text o) []) found.2;
      ports = ap (λ (o : Option Module). map ports_by_module (instances_of modules (unwrap_or (option_map (λ (m : Module). m.cells) o) []))) found.2;
      cells = ap (λ (o : Option Module). unwrap_or (option_map (λ (m : Module). m.cells) o) []) found.2;
    }

-- each module of a readable design is readable
pub readable_in : (P : Module → Type 0) (ms : List Module) → All P ms → (m : Module) → In m ms → P m
readable_in P [] all m i = absurd i
readable_in P (n ∷ ns) all m (inl e) = subst P (sym e) (All-head P n ns all)
readable_in P (n ∷ ns) all m (inr i) = readable_in P ns (All-tail P n ns all) m i

-- the key of a module of an accepted design is accepted
pub accepted_answer : {E : Type 0} (d : Design) (at : ℕ) (script : List Word) → check_faults d.modules ≡ [] → at < length d.modules → IsReadable d → (r : Result KeyParts E) → IfOk r (λ key. key ≡ key_of d.modules at script) → IfOk r IsAcceptedKey
accepted_answer d at script none inside readable (Ok key) e = record {
  design = d;
  at = at;
  readable = readable;
  faultless = none;
  in_range = inside;
  same = e ∙ ap (key_of d.modules at) (sym (ap (λ (k : KeyParts). k.script) e));
}
accepted_answer d at script none inside readable (Err fault) e = tt
