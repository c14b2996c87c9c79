-- `proc`, `flatten` and further words leave a module that a text can give, where the modules that it reaches are such modules.
use Rattle.std.proofs.Common.{◌≡◌, ⊎_elim, List, [], ◌∷◌, Option, Some, None, inl, inr, refl, sym, ◌∙◌, subst}
use Rattle.std.specs.Prelude.{option_and_then, option_map}
use Rattle.rtl_ir.specs.Types.{table_ports}
use Rattle.rtl_ir.specs.declared.module.Module.{Module}
use Rattle.rtl_ir.specs.declared.ports.PortTable.{PortTable}
use Rattle.net_index.specs.Builder.{building_from}
use Rattle.net_model.specs.Within.{Each}
use Rattle.pass_laws.proofs.Faultless.{plain}
use Rattle.flat_pass.specs.Flat.{flat_of}
use Rattle.script_core.specs.declared.outcome.Outcome.{Outcome}
use Rattle.script_core.specs.declared.outcome.Outcome.TheVariants.{Done}
use Rattle.script_core.specs.declared.word.Word.{Word}
use Rattle.script_core.specs.declared.word.Word.TheVariants.{Flatten, Proc}
use Rattle.script_core.specs.Fold.{AfterWord, AreApplicable, AreFlatApplicable, MayBeGiven, after_word, each_proc, fold_flat, fold_words, pass_of}
use Rattle.script_core.specs.Reached.{table_of}
use Rattle.script_core.proofs.Stepping.{word_goes}
use Rattle.rtl_readable.specs.Readable.{IsReadableModule}
use Rattle.readable_passes.proofs.Limits.{items_of, within_limits}
use Rattle.readable_flat.proofs.Flattened.{flat_fits, flat_processes, flat_reads}
use Rattle.readable_runs.specs.Short.{NamesShortMemories}
use Rattle.readable_runs.proofs.Fitting.{readable_fits}
use Rattle.readable_runs.proofs.Names.{short_named}
use Rattle.readable_runs.proofs.Scripts.{reads_applied, unwritten, word_reads}

-- a module without processes
record IsProcd (m : Module) : Type 0 where
  readable : IsReadableModule m
  none : m.processes ≡ []

proc_ready : (table : PortTable) (m n : Module) → MayBeGiven table Proc m → NamesShortMemories m → IsReadableModule m → pass_of table Proc m ≡ Some n → IsProcd n
proc_ready table m n given names is e =
    let goes = word_goes table Proc m n given e in
    record {
      readable = word_reads table Proc m n given (short_named m is names) is e;
      none = (plain (table_ports table.modules) n goes.next.ready.faultless).processes;
    }

each_ready : (modules xs ys : List Module) → Each (λ (m : Module). MayBeGiven (table_of modules m) Proc m) xs → Each NamesShortMemories xs → Each IsReadableModule xs → each_proc modules xs ≡ Some ys → Each IsReadableModule ys
each_ready modules [] ys given names is e = let none : [] ≡ ys = cc in subst (Each IsReadableModule) none (λ n i. absurd i)
each_ready modules (x ∷ xs) ys given names is e =
    by (pass_of (table_of modules x) Proc x) (each_proc modules xs) refl refl (λ rest q. each_ready modules xs rest (λ n i. given n (inr i)) (λ n i. names n (inr i)) (λ n i. is n (inr i)) q) e
  where
    by : (o : Option Module) (r : Option (List Module)) → pass_of (table_of modules x) Proc x ≡ o → each_proc modules xs ≡ r → ((rest : List Module) → each_proc modules xs ≡ Some rest → Each IsReadableModule rest) → option_and_then (λ after. option_map (λ rest. after ∷ rest) r) o ≡ Some ys → Each IsReadableModule ys
    by None r p q later f = absurd cc
    by (Some after) None p q later f = absurd cc
    by (Some after) (Some rest) p q later f =
        let whole : after ∷ rest ≡ ys = cc in
        let here = proc_ready (table_of modules x) x after (given x (inl refl)) (names x (inl refl)) (is x (inl refl)) p in
        subst (Each IsReadableModule) whole (λ n i. ⊎_elim (λ same. subst IsReadableModule (sym same) here.readable) (λ j. later rest q n j) i)

-- `flatten` of a module without processes
flat_ready : (all : List Module) (body after : Module) → IsReadableModule body → Each IsReadableModule all → flat_of all body ≡ Some after → IsReadableModule after
flat_ready all body after own inner e =
    within_limits (building_from 0 after)
    (flat_reads all body after (items_of body own) (λ n i. items_of n (inner n i)) e)
    (flat_fits all body after (readable_fits body own) e)

pub flat_script_reads : (words : List Word) (table : PortTable) (below : List Module) (m n : Module) → AreFlatApplicable words table below m → NamesShortMemories m → Each NamesShortMemories below → IsReadableModule m → Each IsReadableModule below → fold_flat words table below m ≡ Done n → IsReadableModule n
flat_script_reads words table below m n given names all is are e =
    by (pass_of table Proc m) (each_proc below below) refl refl given.rest e
  where
    May : Module × List Module → Type 0
    May r = AfterWord (AreApplicable words table) (flat_of r.1 r.0)

    rest : Module × List Module → Outcome
    rest r = after_word Flatten (fold_words words table) (flat_of r.1 r.0)

    last : (body : Module) (made : List Module) (o : Option Module) → pass_of table Proc m ≡ Some body → each_proc below below ≡ Some made → flat_of made body ≡ o → AfterWord (AreApplicable words table) o → after_word Flatten (fold_words words table) o ≡ Done n → IsReadableModule n
    last body made None p q r h f = absurd cc
    last body made (Some after) p q r h f =
        let own = proc_ready table m body given.given names is p in
        reads_applied table words after n h (unwritten after (flat_processes made body after r ∙ own.none)) (flat_ready made body after own.readable (each_ready below below made given.each all are q) r) f

    by : (o : Option Module) (a : Option (List Module)) → pass_of table Proc m ≡ o → each_proc below below ≡ a → AfterWord May (option_and_then (λ body. option_map (λ made. (body, made)) a) o) → after_word Proc rest (option_and_then (λ body. option_map (λ made. (body, made)) a) o) ≡ Done n → IsReadableModule n
    by None a p q h f = absurd cc
    by (Some body) None p q h f = absurd cc
    by (Some body) (Some made) p q h f = last body made (flat_of made body) p q refl h f
