-- What is written is read again.
use Rattle.std.proofs.Common.{◌≡◌, ℕ, List, [], ◌∷◌, ◌++◌, append_assoc, append-nil, Ok, Bool, false, refl, sym, ap, subst, ◌∙◌}
use Rattle.std.specs.Prelude.{codes}
use Rattle.std.specs.List.{flat_map}
use Rattle.rtl_lex.specs.declared.place.Place.{Place}
use Rattle.rtl_lex.specs.declared.sort.Sort.TheVariants.{Finish}
use Rattle.rtl_lex.specs.declared.token.TokenKind.TheVariants.{Line}
use Rattle.rtl_lex.specs.Place.{start}
use Rattle.rtl_lex.specs.Tokens.{token_at}
use Rattle.rtl_lex.specs.Items.{Seen, last_item, AreItems}
use Rattle.rtl_ir.specs.declared.module.Module.{Module}
use Rattle.rtl_ir.specs.declared.module.Design.{Design}
use Rattle.rtl_grammar.specs.declared.expect.Expect.TheVariants as expects
use Rattle.rtl_grammar.proofs.ReadOn.{read_on}
use Rattle.rtl_grammar.proofs.Reading.{is_read}
use Rattle.rtl_read.specs.declared.draft.Draft.{Draft}
use Rattle.rtl_read.specs.declared.read_fault.ReadFault.TheVariants as faults
use Rattle.rtl_read.specs.Act.{act}
use Rattle.rtl_read.specs.Reads.{AreItemsOf, Reads}
use Rattle.rtl_read.specs.Draft.{nothing}
use Rattle.rtl_write.specs.Text.{text_of}
use Rattle.rtl_readable.specs.Readable.{IsReadable}
use Rattle.rtl_write.proofs.Printed.{Printed}
use Rattle.rtl_write.proofs.Lexing.{seen_at, items_at, Ended, lines_items}
use Rattle.rtl_write.proofs.Statements.{spelled_design}
use Rattle.rtl_write.proofs.WholeText.{lines_design}
use Rattle.rtl_write.proofs.Going.{reads, refused}
use Rattle.rtl_write.proofs.GoingModules.{between, goes_design}
use Rattle.rtl_write.proofs.Tokens as tokens
use Rattle.rtl_write.proofs.Tokens.{word}

-- the items of a design's text, and that reading them gives its modules
pub record IsReadBack (d : Design) : Type 0 where
  pub items : List Seen
  pub last : Draft
  pub tokens : AreItems items (text_of d) start false
  pub read : reads items (expects.Start ∷ []) nothing ≡ Ok last
  pub modules : last.modules ≡ d.modules

ended_behind : (line : Bool) (ps : List Printed) (p : Printed) (qs : List Printed) → Ended line (ps ++ p ∷ qs)
ended_behind line [] p qs = tt
ended_behind line (q ∷ ps) p qs = tt

ended_module : (m : Module) (rest : List Module) → Ended false (tokens.tokens_of (record { modules = m ∷ rest }))
ended_module m rest =
    subst (Ended false) (sym (append_assoc (tokens.attributes 0 m.attributes) (tokens.module_lines m) (flat_map tokens.one_module rest))) (ended_behind false (tokens.attributes 0 m.attributes) (word 0 (codes "module")) _)

ends_here : (there : Place) (d : Draft) → reads (items_at there []) (expects.Modules ∷ []) d ≡ Ok d
unfolding read_on
ends_here there d = refl

-- the empty text
none_back : IsReadBack (record { modules = [] })
unfolding read_on token_at
none_back = record { items = seen_at Line [] start ∷ last_item Finish start ∷ []; last = nothing; tokens = (refl, (refl, refl)); read = refl; modules = refl }

modules_back : (m : Module) (rest : List Module) → IsReadable (record { modules = m ∷ rest }) → IsReadBack (record { modules = m ∷ rest })
modules_back m rest is =
    let d : Design = record { modules = m ∷ rest } in
    let ps = tokens.tokens_of d in
    let goes = (goes_design m rest is).goes start [] in
    record {
      items = items_at start ps;
      last = between (m ∷ rest);
      tokens = subst (λ (text : List ℕ). AreItems (items_at start ps) text start false) (spelled_design d) (lines_items ps start false (lines_design d is) (ended_module m rest));
      read = ap (λ (x : List Printed). reads (items_at start x) (expects.Start ∷ []) nothing) (sym (append-nil ps)) ∙ goes.1 ∙ ends_here goes.0 (between (m ∷ rest));
      modules = refl;
    }

pub read_back : (d : Design) → IsReadable d → IsReadBack d
read_back d is = by d.modules refl
  where
    by : (ms : List Module) → d.modules ≡ ms → IsReadBack d
    by [] e = subst IsReadBack (ap (λ (ms : List Module). record { modules = ms }) (sym e)) none_back
    by (m ∷ rest) e = subst IsReadBack (ap (λ (ms : List Module). record { modules = ms }) (sym e)) (modules_back m rest (subst IsReadable (ap (λ (ms : List Module). record { modules = ms }) e) is))

-- the text of a readable design is that design's
pub reads_design : (d : Design) → IsReadable d → Reads (text_of d) d
reads_design d is =
    let back = read_back d is in
    let whole = is_read act refused faults.Memory back.items (expects.Start ∷ []) nothing back.last back.read in
    record {
      uses = whole.uses;
      last = back.last;
      tokens = subst (AreItemsOf (text_of d)) (sym whole.items) back.tokens;
      grammar = whole.derives;
      meant = whole.meant;
      design_is = ap (λ (ms : List Module). record { modules = ms }) back.modules;
    }
