-- The tokens of wires and memories leave what is good.
use Rattle.std.proofs.Common.{◌≡◌, ℕ, ◌+◌, ◌<◌, ◌≤◌, List, [], ◌∷◌, ◌++◌, Some, Result, Ok, Err, refl, sym, subst}
use Rattle.std.specs.Prelude.{nat_lt, if◌then◌else◌}
use Rattle.std.proofs.lemmas.Bool.{ltb-false}
use Rattle.rtl_lex.specs.declared.sort.Sort.{Sort}
use Rattle.rtl_lex.specs.declared.sort.Sort.TheVariants as sorts
use Rattle.rtl_lex.specs.Items.{Seen}
use Rattle.rtl_sig.specs.Names.{with_name}
use Rattle.rtl_ir.specs.declared.wire.Wire.{Wire}
use Rattle.rtl_ir.specs.declared.wire.Role.{Role}
use Rattle.rtl_ir.specs.declared.wire.Role.TheVariants as roles_of_wires
use Rattle.rtl_grammar.specs.declared.expect.Expect.{Expect}
use Rattle.rtl_grammar.specs.declared.expect.Expect.TheVariants as expects
use Rattle.rtl_grammar.specs.Uses.{◌>>=◌}
use Rattle.rtl_grammar.specs.Grammar.Wire.{after_wire_option, after_wire_width, after_wire_offset, after_port_number}
use Rattle.rtl_grammar.specs.Grammar.Memory.{after_memory_option, after_memory_width, after_memory_size, after_memory_offset}
use Rattle.rtl_read.specs.declared.draft.Draft.{Draft}
use Rattle.rtl_read.specs.declared.open_module.OpenModule.{OpenModule}
use Rattle.rtl_ir.specs.declared.limits.TheConstants.{MAX_BITS, MAX_WIDTH}
use Rattle.rtl_read.specs.declared.read_fault.ReadFault.{ReadFault}
use Rattle.rtl_read.specs.declared.read_fault.ReadFault.TheVariants as faults
use Rattle.rtl_read.specs.Constant.{integer}
use Rattle.rtl_read.specs.Meaning.Module.{is_taken}
use Rattle.rtl_read.specs.Meaning.Wire.{some_width, within_limit, plain_wire, plain_store}
use Rattle.rtl_read.specs.Act.Wire.{act_wire_option, act_wire_width, act_wire_offset, act_port_number}
use Rattle.rtl_read.specs.Act.Memory.{act_memory_option, act_memory_width, act_memory_size, act_memory_offset}
use Rattle.rtl_write.proofs.Items.{IsGood}
use Rattle.rtl_write.proofs.GoodParts.{integer_good, some_width_good, within}
use Rattle.rtl_write.proofs.GoodModules.{unused, wire_open, store_open}
use Rattle.rtl_write.proofs.Stages.{Stage, Fits, IsWireSoFar}
use Rattle.rtl_write.proofs.Drafts.{in_with}
use Rattle.rtl_write.proofs.Rows.{Leaves, leaves_bind_bind, leaves_if_bind, leaves_if_bind_bind}

-- ---- wires

with_role : (w : Wire) (role : Role) → IsWireSoFar w → (role ≡ roles_of_wires.Inner → ⊥) → IsWireSoFar (record w { role = role })
with_role w role is port = record { some = is.some; width = is.width; offset = is.offset; number = is.number; inner = λ e. absurd (port e); attributes = is.attributes }

module _ (roles : List Expect) (i : Seen) (d : Draft) (at : Stage expects.WireOption (Fits roles) d) where
  ported : (role : Role) → (role ≡ roles_of_wires.Inner → ⊥) → Leaves roles (Some (expects.PortNumber ∷ expects.WireOption ∷ [])) (Ok (record d { wire = record d.wire { role = role } }))
  ported role port = (at.0, with_role d.wire role at.1 port, port, λ e s w. (s, w, at.2))

  named_wire : i.sort ≡ sorts.Id → IsGood i → Leaves roles (Some (expects.EndOfLine ∷ [])) (act_wire_option sorts.Id i d)
  named_wire e good =
      let put : OpenModule = record d.current {
        body = record d.current.body { wires = d.current.body.wires ++ record d.wire { name = i.text } ∷ [] };
        wire_names = with_name d.current.wire_names i.text;
        bits = d.current.bits + d.wire.width;
      } in
      let rest : Result OpenModule ReadFault = if nat_lt MAX_BITS (d.current.bits + d.wire.width) then Err (faults.Limit i.place) else Ok put in
      let over : OpenModule → Result Draft ReadFault = λ m. Ok (record d { current = m; wire = plain_wire [] }) in
      leaves_if_bind roles (expects.EndOfLine ∷ []) (is_taken i.text d.current) (faults.Duplicate i.place) rest over
      (λ new. leaves_if_bind roles (expects.EndOfLine ∷ []) (nat_lt MAX_BITS (d.current.bits + d.wire.width)) (faults.Limit i.place) (Ok put) over
      (λ room. at.2 (record d { current = put; wire = plain_wire [] })
      (in_with d at.0.0 put refl (wire_open d.current at.0.0.opened i.text d.wire (unused d.current at.0.0.opened i.text new) (good.name e) at.1 (ltb-false MAX_BITS (d.current.bits + d.wire.width) room)), at.0.1)))

  pub wire_option : (sort : Sort) → i.sort ≡ sort → IsGood i → Leaves roles (after_wire_option sort) (act_wire_option sort i d)
  wire_option sorts.Width e good = (at.0, at.1, λ e s w. (s, w, at.2))
  wire_option sorts.Offset e good = (at.0, at.1, λ e s w. (s, w, at.2))
  wire_option sorts.Input e good = ported roles_of_wires.Input (λ f. absurd cc)
  wire_option sorts.Output e good = ported roles_of_wires.Output (λ f. absurd cc)
  wire_option sorts.Inout e good = ported roles_of_wires.Inout (λ f. absurd cc)
  wire_option sorts.Upto e good = (at.0, record { some = at.1.some; width = at.1.width; offset = at.1.offset; number = at.1.number; inner = at.1.inner; attributes = at.1.attributes }, at.2)
  wire_option sorts.Signed e good = (at.0, record { some = at.1.some; width = at.1.width; offset = at.1.offset; number = at.1.number; inner = at.1.inner; attributes = at.1.attributes }, at.2)
  wire_option sorts.Id e good = named_wire e good
  wire_option sort e good = tt

pub wire_width : (roles : List Expect) (i : Seen) (sort : Sort) (d : Draft) → IsGood i → Stage expects.WireWidth (Fits roles) d → Leaves roles (after_wire_width sort) (act_wire_width i d)
wire_width roles i sorts.Int d good at =
    let put : ℕ → Result Wire ReadFault = λ m. Ok (record d.wire { width = m }) in
    let over : Wire → Result Draft ReadFault = λ w. Ok (record d { wire = w }) in
    leaves_bind_bind roles [] (some_width i.number i) (λ n. within_limit i n >>= put) over
    (λ n e. leaves_bind_bind roles [] (within_limit i n) put over
    (λ m f.
    let in_limit = within i n m f in
    at.2 (record d { wire = record d.wire { width = m } }) at.0
    (record { some = subst (λ (k : ℕ). 0 < k) (sym in_limit.0) (some_width_good i n good e).0; width = subst (λ (k : ℕ). k ≤ MAX_WIDTH) (sym in_limit.0) in_limit.1; offset = at.1.offset; number = at.1.number; inner = at.1.inner; attributes = at.1.attributes })))
wire_width roles i sort d good at = tt

pub wire_offset : (roles : List Expect) (i : Seen) (sort : Sort) (d : Draft) → IsGood i → Stage expects.WireOffset (Fits roles) d → Leaves roles (after_wire_offset sort) (act_wire_offset i d)
wire_offset roles i sorts.Int d good at =
    leaves_bind_bind roles [] (integer i.number i) (λ n. Ok (record d.wire { offset = n })) (λ w. Ok (record d { wire = w }))
    (λ n e. at.2 (record d { wire = record d.wire { offset = n } }) at.0
    (record { some = at.1.some; width = at.1.width; offset = integer_good i n good e; number = at.1.number; inner = at.1.inner; attributes = at.1.attributes }))
wire_offset roles i sort d good at = tt

pub port_number : (roles : List Expect) (i : Seen) (sort : Sort) (d : Draft) → IsGood i → Stage expects.PortNumber (Fits roles) d → Leaves roles (after_port_number sort) (act_port_number i d)
port_number roles i sorts.Int d good at =
    leaves_bind_bind roles [] (integer i.number i) (λ n. Ok (record d.wire { number = n })) (λ w. Ok (record d { wire = w }))
    (λ n e. at.3 (record d { wire = record d.wire { number = n } }) at.0
    (record { some = at.1.some; width = at.1.width; offset = at.1.offset; number = integer_good i n good e; inner = λ f. absurd (at.2 f); attributes = at.1.attributes }))
port_number roles i sort d good at = tt

-- ---- memories

module _ (roles : List Expect) (i : Seen) (d : Draft) (at : Stage expects.MemoryOption (Fits roles) d) where
  named_memory : i.sort ≡ sorts.Id → IsGood i → Leaves roles (Some (expects.EndOfLine ∷ [])) (act_memory_option sorts.Id i d)
  named_memory e good =
      let named : OpenModule = record d.current { other_names = with_name d.current.other_names i.text } in
      let put : OpenModule = record named { body = record named.body { memories = named.body.memories ++ record d.store { name = i.text } ∷ [] } } in
      leaves_if_bind_bind roles (expects.EndOfLine ∷ []) (is_taken i.text d.current) (faults.Duplicate i.place) (Ok named) (λ n. Ok (record n { body = record n.body { memories = n.body.memories ++ record d.store { name = i.text } ∷ [] } })) (λ m. Ok (record d { current = m; store = plain_store [] }))
      (λ new. at.2 (record d { current = put; store = plain_store [] })
      (in_with d at.0.0 put refl (store_open d.current at.0.0.opened i.text d.store (unused d.current at.0.0.opened i.text new) (good.name e) at.1), at.0.1))

  pub memory_option : (sort : Sort) → i.sort ≡ sort → IsGood i → Leaves roles (after_memory_option sort) (act_memory_option sort i d)
  memory_option sorts.Width e good = (at.0, at.1, λ e s w. (s, w, at.2))
  memory_option sorts.Size e good = (at.0, at.1, λ e s w. (s, w, at.2))
  memory_option sorts.Offset e good = (at.0, at.1, λ e s w. (s, w, at.2))
  memory_option sorts.Id e good = named_memory e good
  memory_option sort e good = tt

pub memory_width : (roles : List Expect) (i : Seen) (sort : Sort) (d : Draft) → IsGood i → Stage expects.MemoryWidth (Fits roles) d → Leaves roles (after_memory_width sort) (act_memory_width i d)
memory_width roles i sorts.Int d good at =
    leaves_bind_bind roles [] (some_width i.number i) (λ n. Ok (record d.store { width = n })) (λ s. Ok (record d { store = s }))
    (λ n e.
    let wide = some_width_good i n good e in
    at.2 (record d { store = record d.store { width = n } }) at.0 (record { some = wide.0; width = wide.1; size = at.1.size; offset = at.1.offset; attributes = at.1.attributes }))
memory_width roles i sort d good at = tt

pub memory_size : (roles : List Expect) (i : Seen) (sort : Sort) (d : Draft) → IsGood i → Stage expects.MemorySize (Fits roles) d → Leaves roles (after_memory_size sort) (act_memory_size i d)
memory_size roles i sorts.Int d good at =
    leaves_bind_bind roles [] (integer i.number i) (λ n. Ok (record d.store { size = n })) (λ s. Ok (record d { store = s }))
    (λ n e. at.2 (record d { store = record d.store { size = n } }) at.0 (record { some = at.1.some; width = at.1.width; size = integer_good i n good e; offset = at.1.offset; attributes = at.1.attributes }))
memory_size roles i sort d good at = tt

pub memory_offset : (roles : List Expect) (i : Seen) (sort : Sort) (d : Draft) → IsGood i → Stage expects.MemoryOffset (Fits roles) d → Leaves roles (after_memory_offset sort) (act_memory_offset i d)
memory_offset roles i sorts.Int d good at =
    leaves_bind_bind roles [] (integer i.number i) (λ n. Ok (record d.store { offset = n })) (λ s. Ok (record d { store = s }))
    (λ n e. at.2 (record d { store = record d.store { offset = n } }) at.0 (record { some = at.1.some; width = at.1.width; size = at.1.size; offset = integer_good i n good e; attributes = at.1.attributes }))
memory_offset roles i sort d good at = tt
