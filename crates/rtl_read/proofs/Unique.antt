-- What a reading of all items says of the text: its design, or its first fault; and each text has one of these.
use Rattle.std.proofs.Common.{◌≡◌, ℕ, List, [], ◌∷◌, ◌++◌, Result, Ok, Err, false, refl, sym, ap, subst, ◌∙◌, inl, inr, ◌⊎◌, ⊎_elim}
use Rattle.std.specs.Prelude.{IfOk}
use Rattle.rtl_lex.specs.Place.{start}
use Rattle.rtl_lex.specs.Items.{Seen}
use Rattle.rtl_lex.proofs.ItemLemmas.{has_items, same_items}
use Rattle.rtl_ir.specs.declared.module.Design.{Design}
use Rattle.rtl_grammar.specs.declared.expect.Expect.TheVariants.{Start}
use Rattle.rtl_grammar.specs.Uses.{items_of}
use Rattle.rtl_grammar.proofs.Reading.{is_read, reads_again, is_fault, IsFault}
use Rattle.rtl_grammar.proofs.Exactly.{fault_reads}
use Rattle.rtl_grammar.proofs.Closed.{are_closed}
use Rattle.rtl_read.specs.declared.draft.Draft.{Draft}
use Rattle.rtl_read.specs.declared.read_fault.ReadFault.{ReadFault}
use Rattle.rtl_read.specs.declared.read_fault.ReadFault.TheVariants as faults
use Rattle.rtl_read.specs.Draft.{nothing, design_of}
use Rattle.rtl_read.specs.Act.{act}
use Rattle.rtl_read.specs.Gives.{Gives}
use Rattle.rtl_read.specs.Reads.{AreItemsOf, HasNoMeaning, IsFirstFault, IsOutOfPlace, OnFault, Reads, refusal}
use Rattle.rtl_read.specs.Taking.{reading, design_read}
use Rattle.rtl_read.proofs.Refusing.{refuses_no_number}

-- what reading all of these items gives
abbrev read_all : List Seen → Result Draft ReadFault
read_all items = reading items (Start ∷ []) nothing

-- ---- a design and a first fault are what is read

pub reads_is : (text : List ℕ) (design : Design) (r : Reads text design) → read_all (items_of r.uses) ≡ Ok r.last
unfolding reading
reads_is text design r = reads_again act refusal (faults.Syntax start) r.uses (Start ∷ []) nothing r.grammar ∙ r.meant

pub fault_is : (text : List ℕ) (fault : ReadFault) (f : IsFirstFault text fault) → read_all (items_of f.before ++ f.here ∷ f.rest) ≡ Err fault
unfolding reading
fault_is text fault f =
    let first : IsFault act refusal (faults.Syntax start) (items_of f.before ++ f.here ∷ f.rest) (Start ∷ []) nothing fault = record { before = f.before; here = f.here; rest = f.rest; state = f.state; items = refl; more = f.more; begins = f.begins; meant = f.meant; cause = ⊎_elim (λ (c : IsOutOfPlace f.before f.here fault). inl (c.none, c.fault_is)) (λ (c : HasNoMeaning f.before f.here f.state fault). inr (c.role, c.others, c.some, c.fault_is)) f.cause } in
    fault_reads act refusal (faults.Syntax start) (items_of f.before ++ f.here ∷ f.rest) (Start ∷ []) nothing fault first (are_closed (items_of f.before ++ f.here ∷ f.rest) text start false f.tokens) refl

-- ---- what is read is a design or a first fault

design_ok : (r : Result Draft ReadFault) (design : Design) → design_read r ≡ Ok design → (last : Draft) × (r ≡ Ok last) × (design_of last ≡ design)
design_ok (Ok last) design e = (last, refl, cc)
design_ok (Err fault) design e = absurd cc

design_err : (r : Result Draft ReadFault) (fault : ReadFault) → design_read r ≡ Err fault → r ≡ Err fault
design_err (Ok last) fault e = absurd cc
design_err (Err other) fault e = cc

-- the answer is what reading gives
abbrev IsReading : List ℕ → Result Design ReadFault → Type 0
IsReading text answer = (items : List Seen) → AreItemsOf text items → Gives answer (design_read (read_all items))

read_of : (text : List ℕ) (items : List Seen) (last : Draft) → AreItemsOf text items → read_all items ≡ Ok last → Reads text (design_of last)
unfolding reading
read_of text items last tokens e =
    let read = is_read act refusal (faults.Syntax start) items (Start ∷ []) nothing last e in
    record { uses = read.uses; last = last; tokens = subst (AreItemsOf text) (sym read.items) tokens; grammar = read.derives; meant = read.meant; design_is = refl }

first_of : (text : List ℕ) (items : List Seen) (fault : ReadFault) → AreItemsOf text items → read_all items ≡ Err fault → IsFirstFault text fault
unfolding reading
first_of text items fault tokens e =
    let first = is_fault act refusal (faults.Syntax start) refuses_no_number items (Start ∷ []) nothing fault (are_closed items text start false tokens) refl e in
    record { before = first.before; here = first.here; rest = first.rest; state = first.state; tokens = subst (AreItemsOf text) first.items tokens; more = first.more; begins = first.begins; meant = first.meant; cause = ⊎_elim (λ c. inl (record { none = c.0; fault_is = c.1 })) (λ c. inr (record { role = c.0; others = c.1; some = c.2; fault_is = c.3 })) first.cause }

pub what_reads : (text : List ℕ) (answer : Result Design ReadFault) → IsReading text answer → IfOk answer (Reads text)
what_reads text (Ok design) h =
    let items = has_items text in
    let ok = design_ok (read_all items.0) design (h items.0 items.1) in
    subst (Reads text) ok.2 (read_of text items.0 ok.0 items.1 ok.1)
what_reads text (Err fault) h = tt

pub only_that : (text : List ℕ) (answer : Result Design ReadFault) → IsReading text answer → (design : Design) → Reads text design → Gives answer (Ok design)
only_that text answer h design r =
    subst (Gives answer) (ap design_read (reads_is text design r) ∙ ap (λ (x : Design). Ok x) r.design_is) (h (items_of r.uses) r.tokens)

first_answered : (text : List ℕ) (fault : ReadFault) → ((items : List Seen) → AreItemsOf text items → design_read (read_all items) ≡ Err fault) → IsFirstFault text fault
first_answered text fault h =
    let items = has_items text in
    first_of text items.0 fault items.1 (design_err (read_all items.0) fault (h items.0 items.1))

pub which_fault : (text : List ℕ) (answer : Result Design ReadFault) → IsReading text answer → OnFault answer (IsFirstFault text)
which_fault text (Ok design) h = tt
which_fault text (Err faults.Memory) h = tt
which_fault text (Err (faults.Lex p)) h = first_answered text (faults.Lex p) h
which_fault text (Err (faults.Syntax p)) h = first_answered text (faults.Syntax p) h
which_fault text (Err (faults.Int p)) h = first_answered text (faults.Int p) h
which_fault text (Err (faults.Duplicate p)) h = first_answered text (faults.Duplicate p) h
which_fault text (Err (faults.UnknownName p)) h = first_answered text (faults.UnknownName p) h
which_fault text (Err (faults.Range p)) h = first_answered text (faults.Range p) h
which_fault text (Err (faults.Limit p)) h = first_answered text (faults.Limit p) h

pub refused_is : (text : List ℕ) (answer : Result Design ReadFault) → IsReading text answer → (fault : ReadFault) → IsFirstFault text fault → Gives answer (Err fault)
refused_is text answer h fault f =
    subst (Gives answer) (ap design_read (fault_is text fault f)) (h (items_of f.before ++ f.here ∷ f.rest) f.tokens)

-- ---- each text has one of these, since it has one list of items

same_read : (text : List ℕ) (is js : List Seen) → AreItemsOf text is → AreItemsOf text js → read_all is ≡ read_all js
same_read text is js a b = ap read_all (same_items is js text start false a b)

pub some_answer : (text : List ℕ) → ((design : Design) × Reads text design) ⊎ ((fault : ReadFault) × IsFirstFault text fault)
some_answer text = answer (has_items text).0 (has_items text).1 (read_all (has_items text).0) refl
  where
    answer : (items : List Seen) → AreItemsOf text items → (r : Result Draft ReadFault) → read_all items ≡ r → ((design : Design) × Reads text design) ⊎ ((fault : ReadFault) × IsFirstFault text fault)
    answer items tokens (Ok last) e = inl (design_of last, read_of text items last tokens e)
    answer items tokens (Err fault) e = inr (fault, first_of text items fault tokens e)

pub one_design : (text : List ℕ) (design other : Design) → Reads text design → Reads text other → design ≡ other
one_design text design other a b =
    let same = sym (reads_is text design a) ∙ same_read text (items_of a.uses) (items_of b.uses) a.tokens b.tokens ∙ reads_is text other b in
    let last : a.last ≡ b.last = cc same in
    sym a.design_is ∙ ap design_of last ∙ b.design_is

pub one_fault : (text : List ℕ) (fault other : ReadFault) → IsFirstFault text fault → IsFirstFault text other → fault ≡ other
one_fault text fault other a b =
    let same = sym (fault_is text fault a) ∙ same_read text (items_of a.before ++ a.here ∷ a.rest) (items_of b.before ++ b.here ∷ b.rest) a.tokens b.tokens ∙ fault_is text other b in
    cc same

pub not_both : (text : List ℕ) (design : Design) (fault : ReadFault) → Reads text design → IsFirstFault text fault → ⊥
not_both text design fault r f =
    let same = sym (reads_is text design r) ∙ same_read text (items_of r.uses) (items_of f.before ++ f.here ∷ f.rest) r.tokens f.tokens ∙ fault_is text fault f in
    absurd (cc same)
