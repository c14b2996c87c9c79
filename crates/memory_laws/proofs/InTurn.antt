-- All memories of a module become words, one after another.
use Rattle.std.proofs.Common.{◌≡◌, ◌≤◌, ℕ, zero, suc, List, [], ◌∷◌, length, Some, refl, ◌∙◌, ap, subst, sym, arith}
use Rattle.std.specs.Prelude.{slice_get}
use Rattle.rtl_ir.specs.Build.{building_of}
use Rattle.rtl_ir.specs.Flat.Cell as flat
use Rattle.rtl_ir.specs.Flat.Cell.{instances}
use Rattle.rtl_ir.specs.Ports.{ports_of}
use Rattle.rtl_ir.specs.Types as types
use Rattle.rtl_ir.specs.declared.module.Module.{Module}
use Rattle.rtl_ir.specs.declared.store.Store.{Store}
use Rattle.net_model.proofs.Composing.{RefinesOver_refl}
use Rattle.net_model.specs.Mem.Expand.{expanded_memory, first_memory, memories_gone, memory_step}
use Rattle.net_model.specs.Mem.Gather.{gathered}
use Rattle.net_model.specs.Refine.{IsWellDriven, RefinesOver}
use Rattle.pass_laws.specs.Ready.{IsReady}
use Rattle.pass_laws.proofs.Passes.{refines_in_turn}
use Rattle.memory_laws.specs.Named.{AreShort, IsShort}
use Rattle.pass_laws.specs.OwnNames.{HaveOwnNames}
use Rattle.memory_laws.proofs.Formed.{driven, same_id, same_instances, same_ports}
use Rattle.memory_laws.proofs.KeptRows.{without}
use Rattle.memory_laws.proofs.Readied.{others_left, still_named, still_ready}
use Rattle.memory_laws.proofs.Refined.{refines_over}

module _ (ports : types.Ports) (over : flat.Ports) where
  -- what is promised of a module after some memories became words: the others may follow
  pub record IsExpanded (m n : Module) : Type 0 where
    pub id : m.id ≡ n.id
    pub same_ports : ports_of m.wires ≡ ports_of n.wires
    pub same_instances : instances m.cells ≡ instances n.cells
    pub driven : (over : flat.Ports) → IsWellDriven over m → IsWellDriven over n
    pub refines : RefinesOver m n over
    pub ready : IsReady ports n
    pub named : HaveOwnNames n

  expanded_none : (m : Module) → IsReady ports m → HaveOwnNames m → IsExpanded m m
  expanded_none m ready named =
      record { id = refl; same_ports = refl; same_instances = refl; driven = λ over h. h; refines = RefinesOver_refl m over; ready = ready; named = named }

  expanded_both : (a b c : Module) → IsExpanded a b → IsExpanded b c → IsExpanded a c
  expanded_both a b c h k = record {
    id = h.id ∙ k.id;
    same_ports = h.same_ports ∙ k.same_ports;
    same_instances = h.same_instances ∙ k.same_instances;
    driven = λ over d. k.driven over (h.driven over d);
    refines = refines_in_turn a b c over h.id h.same_ports h.same_instances (λ over agree d. h.driven over d) h.refines k.refines;
    ready = k.ready;
    named = k.named;
  }

  -- one memory
  module _ (m : Module) (s : Store) (rest : List Store) (are : m.memories ≡ s ∷ rest) (ready : IsReady ports m) (named : HaveOwnNames m) (short : (memory_step (gathered m 0 s) s (building_of m)).next ≤ 1000000000) where
    there : slice_get m.memories 0 ≡ Some s
    there = ap (λ z. slice_get z 0) are

    one_expanded : IsExpanded m (expanded_memory m (gathered m 0 s) s)
    one_expanded = record {
      id = same_id ports m s 0 ready named there short;
      same_ports = same_ports ports m s 0 ready named there short;
      same_instances = same_instances ports m s 0 ready named there short;
      driven = driven ports m s 0 ready named there short;
      refines = refines_over ports over m s 0 ready named there;
      ready = still_ready ports m s 0 ready named there short;
      named = still_named ports m s 0 ready named there short;
    }

    rest_left : (expanded_memory m (gathered m 0 s) s).memories ≡ rest
    rest_left = others_left ports m s 0 ready named there short ∙ ap (without 0) are

  -- so many memories
  pub all_expanded : (k : ℕ) (m : Module) → IsReady ports m → HaveOwnNames m → AreShort k m → IsExpanded m (memories_gone k m)
  all_expanded zero m ready named short = expanded_none m ready named
  all_expanded (suc k) m ready named short = by m.memories refl short (λ n r d h. all_expanded k n r d h)
    where
      by : (ss : List Store) → m.memories ≡ ss → IsShort m ss × AreShort k (first_memory m ss) → ((n : Module) → IsReady ports n → HaveOwnNames n → AreShort k n → IsExpanded n (memories_gone k n)) → IsExpanded m (memories_gone k (first_memory m ss))
      by [] e i later = later m ready named i.1
      by (s ∷ ss) e i later =
          let n : Module = expanded_memory m (gathered m 0 s) s in
          let one : IsExpanded m n = one_expanded m s ss e ready named i.0 in
          expanded_both m n (memories_gone k n) one (later n one.ready one.named i.1)

  -- none is left of as many
  pub all_gone : (k : ℕ) (m : Module) → IsReady ports m → HaveOwnNames m → AreShort k m → length m.memories ≤ k → (memories_gone k m).memories ≡ []
  all_gone zero m ready named short le = by m.memories le
    where
      by : (ss : List Store) → length ss ≤ 0 → ss ≡ []
      by [] h = refl
      by (s ∷ ss) h = absurd (omega (arith, h))
  all_gone (suc k) m ready named short le = by m.memories refl short le (λ n r d h l. all_gone k n r d h l)
    where
      by : (ss : List Store) → m.memories ≡ ss → IsShort m ss × AreShort k (first_memory m ss) → length ss ≤ suc k → ((n : Module) → IsReady ports n → HaveOwnNames n → AreShort k n → length n.memories ≤ k → (memories_gone k n).memories ≡ []) → (memories_gone k (first_memory m ss)).memories ≡ []
      by [] e i h later = later m ready named i.1 (subst (λ z. length z ≤ k) (sym e) (omega arith))
      by (s ∷ ss) e i h later =
          let n : Module = expanded_memory m (gathered m 0 s) s in
          let one : IsExpanded m n = one_expanded m s ss e ready named i.0 in
          later n one.ready one.named i.1 (subst (λ z. length z ≤ k) (sym (rest_left m s ss e ready named i.0)) (omega (arith, h)))
