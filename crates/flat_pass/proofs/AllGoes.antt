-- All replacements, one after another: the rows of a design move into those of the design with the module after the pass.
use Rattle.std.proofs.Common.{◌≡◌, ℕ, zero, suc, ◌≤◌, Bool, true, false, cond, ◌&&◌, List, [], ◌∷◌, ◌++◌, map, Option, Some, None, inr, ⊎_elim, refl, sym, ◌∙◌, ap, subst}
use Rattle.std.specs.Prelude.{length, nat_le, option_map, unwrap_or}
use Rattle.std.specs.Str.{bytes_eq}
use Rattle.std.proofs.lemmas.Bool.{leb-true}
use Rattle.rtl_ir.specs.declared.cell.Cell.{Cell}
use Rattle.rtl_ir.specs.declared.module.Design.{Design}
use Rattle.rtl_ir.specs.declared.module.Module.{Module}
use Rattle.rtl_ir.specs.Build.{Building, building_of}
use Rattle.rtl_ir.specs.Empty.{empty_module}
use Rattle.rtl_ir.specs.Flat.Cell.{Ports, instances}
use Rattle.rtl_ir.specs.Flat.Place.{Frame, frame}
use Rattle.rtl_ir.specs.Flat.Tree.{named, ports_or_none}
use Rattle.rtl_ir.specs.Ports.{ports_of}
use Rattle.rtl_ir.specs.Types.{design_ports, module_named, port_lines}
use Rattle.net_index.specs.Numbering.{bit_count, widths_of}
use Rattle.net_model.specs.Below.{AreReached, RefinesBelow}
use Rattle.net_model.specs.Lists.{Distinct, In}
use Rattle.net_model.specs.Refine.{IsWellDriven, with_body}
use Rattle.net_model.proofs.Composing.{ids_swap}
use Rattle.net_model.proofs.Members.{In-cases}
use Rattle.net_model.proofs.Relating.{named_id}
use Rattle.pass_laws.specs.Ready.{IsReady}
use Rattle.flat_pass.specs.Flat.{after_one, first_instance, flat_after, flat_of, is_within, put_all, put_cell, replaced, turn_by}
use Rattle.flat_pass.proofs.Moving.{Move}
use Rattle.flat_pass.proofs.Partners.{CellCopied, cells_paired, instance_cell, instance_in, kind_same, paired_back, store_name}
use Rattle.flat_pass.proofs.Closed.{stored}
use Rattle.net_model.proofs.Swapping.{instances-append}
use Rattle.flat_pass.proofs.Taking.{Split, first_split, some_same, taken_in, taken_instances}
use Rattle.flat_pass.proofs.Fresh.{IsFresh}
use Rattle.flat_pass.proofs.Melted.{HasNames, IsPlain, after, after_is, around, cells_new, copying_new, melt}
use Rattle.flat_pass.proofs.Paths.{go}
use Rattle.flat_pass.proofs.Twice.{DesignGoes, design_rests, design_twice, goes_refines, twice}
use Rattle.flat_pass.proofs.OneGoes.{StandsOver, leads_named, named_in, one_goes, same_ports, still_over}
use Rattle.flat_pass.proofs.Driven.{after_driven}
use Rattle.flat_pass.proofs.ReadyAfter.{after_ready}
use Rattle.flat_pass.proofs.Steps.{after_fresh, after_names, after_plain, stores_distinct}

-- a module that is added to is within the limit on fresh names
within_next : (b : Building) → is_within b ≡ true → b.next ≤ 1000000000
unfolding is_within
within_next b e = leb-true b.next 1000000000 (third (nat_le (length b.body.cells) 1048576) (nat_le (bit_count (widths_of b.body.wires)) 4194304) (nat_le b.next 1000000000) e)
  where
    third : (s t u : Bool) → (s && (t && u)) ≡ true → u ≡ true
    third true true u h = h
    third true false u h = absurd (cc)
    third false t u h = absurd (cc)

pub named_find : (ms : List Module) (id : List ℕ) → module_named ms id ≡ named ms id
named_find [] id = refl
named_find (m ∷ ms) id = ap (λ z. cond (bytes_eq m.id id) (Some m) z) (named_find ms id)

-- the modules below, and what is asked of them
pub record AreFit (below : List Module) : Type 0 where
  pub plain : (m : Module) → In m below → IsPlain m
  pub names : (m : Module) → In m below → HasNames m
  pub ready : (m : Module) → In m below → IsReady (design_ports below) m
  pub covered : (m : Module) → In m below → (g : Frame) → In g (instances m.cells) → (k : Module) × (named below g.module_name ≡ Some k)

-- what is asked of the module, and kept
pub record IsStep (below : List Module) (bb : Building) : Type 0 where
  pub plain : IsPlain bb.body
  pub names : HasNames bb.body
  pub ready : IsReady (design_ports below) bb.body
  pub fresh : IsFresh bb
  pub apart : (m : Module) → In m below → m.id ≡ bb.body.id → ⊥
  pub covered : (g : Frame) → In g (instances bb.body.cells) → (k : Module) × (named below g.module_name ≡ Some k)

-- of any two designs that differ only in one module, which has the first body in the one and the second in the other, the rows of
-- the first design move into those of the second, where its modules are those below
pub record BodyGoes (below : List Module) (b c : Module) : Type 0 where
  pub id : b.id ≡ c.id
  pub ports : ports_of b.wires ≡ ports_of c.wires
  pub goes :
      (pre post : List Module) → Distinct (map (λ (m : Module). m.id) (pre ++ b ∷ post)) → StandsOver (with_body pre b post) b below →
      ((go : Move) × DesignGoes go (with_body pre b post) (with_body pre c post)) × StandsOver (with_body pre c post) c below

body_rests : (below : List Module) (b : Module) → BodyGoes below b b
body_rests below b = record {
  id = refl;
  ports = refl;
  goes = λ pre post ids over. ((λ q. q, design_rests (with_body pre b post)), over);
}

body_twice : (below : List Module) (a b c : Module) → BodyGoes below a b → BodyGoes below b c → BodyGoes below a c
body_twice below a b c h k = record {
  id = h.id ∙ k.id;
  ports = h.ports ∙ k.ports;
  goes = λ pre post ids over. let one = h.goes pre post ids over in
      let two = k.goes pre post (subst Distinct (ids_swap a b h.id h.ports pre post) ids) one.1 in
      ((twice one.0.0 two.0.0, design_twice one.0.0 two.0.0 (with_body pre a post) (with_body pre b post) (with_body pre c post) one.0.1 two.0.1), two.1);
}

-- ports under which the instances of a module have the ports of the modules below
abbrev pub Agrees : List Module → Ports → Module → Type 0
Agrees below over b = (g : Frame) → In g (instances b.cells) → over g.module_name ≡ ports_or_none (named below g.module_name)

-- no bit of the modules below has two drivers, under these ports
pub record AreDriven (below : List Module) (over : Ports) : Type 0 where
  pub agrees : (m : Module) → In m below → Agrees below over m
  pub driven : (m : Module) → In m below → IsWellDriven over m

-- and then none of a module has, where none of another one has
pub record StaysDriven (below : List Module) (b c : Module) : Type 0 where
  pub stays : (over : Ports) → AreDriven below over → Agrees below over b → IsWellDriven over b → Agrees below over c × IsWellDriven over c

driven_rests : (below : List Module) (b : Module) → StaysDriven below b b
driven_rests below b = record { stays = λ over h a d. (a, d) }

driven_twice : (below : List Module) (a b c : Module) → StaysDriven below a b → StaysDriven below b c → StaysDriven below a c
driven_twice below a b c h k = record {
  stays = λ over all agrees driven. let one = h.stays over all agrees driven in k.stays over all one.0 one.1;
}

module _ (below : List Module) (fit : AreFit below) where
  module _ (bb : Building) (f : Cell) (rest : List Cell) (n : Module) (step : IsStep below bb) (taken : Split f rest bb.body.cells) (found : named below f.kind_name ≡ Some n) (few : (replaced n f (around bb f rest n)).next ≤ 1000000000) where
    child_in : In n below
    child_in = named_in below f.kind_name n found

    child_apart : f.kind_name ≡ bb.body.id → ⊥
    child_apart e = step.apart n child_in (named_id below f.kind_name n found ∙ e)

    few_cells : (put_all (put_cell (copying_new bb f rest n)) n.cells (stored n f (around bb f rest n))).next ≤ 1000000000
    unfolding replaced
    few_cells = few

    plain_after : IsPlain (after bb f rest n)
    plain_after =
        after_plain bb f rest n taken step.plain (fit.plain n child_in) (fit.names n child_in) step.names step.fresh few_cells child_apart

    names_after : HasNames (after bb f rest n)
    names_after =
        after_names bb f rest n taken step.plain (fit.plain n child_in) (fit.names n child_in) step.names step.fresh few_cells

    ready_after : IsReady (design_ports below) (after bb f rest n)
    ready_after =
        after_ready (design_ports below) bb f rest n taken step.plain (fit.plain n child_in) (fit.names n child_in) step.names step.fresh few_cells child_apart step.ready (fit.ready n child_in) (ap (option_map (λ (m : Module). port_lines m.wires)) (named_find below f.kind_name ∙ found))

    fresh_after : IsFresh (replaced n f (around bb f rest n))
    fresh_after =
        after_fresh bb f rest n taken step.plain (fit.plain n child_in) (fit.names n child_in) step.names step.fresh few_cells

    own_names : Distinct (map store_name (after bb f rest n).memories)
    own_names =
        stores_distinct bb f rest n taken step.plain (fit.plain n child_in) (fit.names n child_in) step.names step.fresh few_cells

    covered_after : (g : Frame) → In g (instances (after bb f rest n).cells) → (k : Module) × (named below g.module_name ≡ Some k)
    covered_after g i =
        ⊎_elim
        (λ l. step.covered g (subst (In g) (sym (taken_instances f rest bb.body.cells taken)) (inr l)))
        (λ r. let y = instance_cell (cells_new bb f rest n) g r in
        let x = paired_back (CellCopied (copying_new bb f rest n)) n.cells (cells_new bb f rest n) (cells_paired (copying_new bb f rest n) n.cells (stored n f (around bb f rest n))) y.0 y.1 in
        let k = fit.covered n child_in (frame x.0.name x.0.kind_name) (instance_in n.cells x.0 x.1 (sym (kind_same x.0 y.0 x.2.kind) ∙ y.2)) in
        (k.0, ap (named below) (ap (λ (z : Frame). z.module_name) y.3 ∙ x.2.kind) ∙ k.1))
        (In-cases g (instances rest) (instances (cells_new bb f rest n)) (subst (In g) (instances-append rest (cells_new bb f rest n)) i))

    goes_after : BodyGoes below bb.body (after bb f rest n)
    goes_after = record {
      id = refl;
      ports = same_ports bb f rest n below taken step.plain step.names.instances found fit.plain fit.names step.apart own_names;
      goes = λ pre post ids over. ((go (melt bb f rest n), one_goes bb f rest n below taken step.plain step.names.instances found fit.plain fit.names step.apart own_names pre post ids over), still_over bb f rest n below taken step.plain step.names.instances found fit.plain fit.names step.apart own_names pre post ids over);
    }

    agrees_after : (over : Ports) → AreDriven below over → Agrees below over bb.body → Agrees below over (after bb f rest n)
    agrees_after over all agrees g i =
        ⊎_elim
        (λ l. agrees g (subst (In g) (sym (taken_instances f rest bb.body.cells taken)) (inr l)))
        (λ r. let y = instance_cell (cells_new bb f rest n) g r in
        let x = paired_back (CellCopied (copying_new bb f rest n)) n.cells (cells_new bb f rest n) (cells_paired (copying_new bb f rest n) n.cells (stored n f (around bb f rest n))) y.0 y.1 in
        let k = all.agrees n child_in (frame x.0.name x.0.kind_name) (instance_in n.cells x.0 x.1 (sym (kind_same x.0 y.0 x.2.kind) ∙ y.2)) in
        subst (λ z. over z ≡ ports_or_none (named below z)) (sym (ap (λ (z : Frame). z.module_name) y.3 ∙ x.2.kind)) k)
        (In-cases g (instances rest) (instances (cells_new bb f rest n)) (subst (In g) (instances-append rest (cells_new bb f rest n)) i))

    known : (over : Ports) → Agrees below over bb.body → over f.kind_name ≡ ports_of n.wires
    known over agrees =
        agrees (frame f.name f.kind_name) (instance_in bb.body.cells f (taken_in f rest bb.body.cells taken) taken.kind) ∙ ap ports_or_none found

    driven_after : StaysDriven below bb.body (after bb f rest n)
    driven_after = record {
      stays = λ over all agrees driven. (agrees_after over all agrees, after_driven bb f rest n taken step.plain (fit.plain n child_in) (fit.names n child_in) step.names step.fresh few_cells child_apart over (known over agrees) driven (all.driven n child_in) goes_after.ports);
    }

    pub body_after : BodyGoes below bb.body (replaced n f (around bb f rest n)).body
    body_after = subst (BodyGoes below bb.body) (sym (after_is bb f rest n)) goes_after

    pub stays_after : StaysDriven below bb.body (replaced n f (around bb f rest n)).body
    stays_after = subst (StaysDriven below bb.body) (sym (after_is bb f rest n)) driven_after

    pub step_after : IsStep below (replaced n f (around bb f rest n))
    step_after = record {
      plain = subst IsPlain (sym (after_is bb f rest n)) plain_after;
      names = subst HasNames (sym (after_is bb f rest n)) names_after;
      ready = subst (IsReady (design_ports below)) (sym (after_is bb f rest n)) ready_after;
      fresh = fresh_after;
      apart = λ m i e. step.apart m i (e ∙ ap (λ (z : Module). z.id) (after_is bb f rest n));
      covered = subst (λ (z : Module). (g : Frame) → In g (instances z.cells) → (k : Module) × (named below g.module_name ≡ Some k)) (sym (after_is bb f rest n)) covered_after;
    }

  -- one replacement
  pub record IsNext (bb bb' : Building) : Type 0 where
    pub step : IsStep below bb'
    pub body : BodyGoes below bb.body bb'.body
    pub driven : StaysDriven below bb.body bb'.body

  pub one_next : (bb : Building) (r : Cell × List Cell) → IsStep below bb → first_instance bb.body.cells ≡ Some r → is_within (after_one below bb r) ≡ true → IsNext bb (after_one below bb r)
  one_next bb r step e w =
      subst (IsNext bb) (sym same) (record {
        step = step_after bb r.0 r.1 k.0 step taken k.1 few;
        body = body_after bb r.0 r.1 k.0 step taken k.1 few;
        driven = stays_after bb r.0 r.1 k.0 step taken k.1 few;
      })
    where
      taken : Split r.0 r.1 bb.body.cells
      taken = first_split bb.body.cells r e

      k : (n : Module) × (named below r.0.kind_name ≡ Some n)
      k = step.covered (frame r.0.name r.0.kind_name) (instance_in bb.body.cells r.0 (taken_in r.0 r.1 bb.body.cells taken) taken.kind)

      same : after_one below bb r ≡ replaced k.0 r.0 (around bb r.0 r.1 k.0)
      same =
          ap (λ o. replaced (unwrap_or o (empty_module r.0.kind_name)) r.0 (around bb r.0 r.1 k.0)) k.1

      few : (replaced k.0 r.0 (around bb r.0 r.1 k.0)).next ≤ 1000000000
      few = subst (λ (z : Building). z.next ≤ 1000000000) same (within_next (after_one below bb r) w)

  -- the module after the pass
  pub record IsEnd (bb : Building) (c : Module) : Type 0 where
    pub plain : IsPlain c
    pub names : HasNames c
    pub ready : IsReady (design_ports below) c
    pub none : first_instance c.cells ≡ None
    pub body : BodyGoes below bb.body c
    pub driven : StaysDriven below bb.body c

  ends : (bb : Building) (c : Module) → IsStep below bb → first_instance bb.body.cells ≡ None → bb.body ≡ c → IsEnd bb c
  ends bb c step e same =
      subst (IsEnd bb) same (record { plain = step.plain; names = step.names; ready = step.ready; none = e; body = body_rests below bb.body; driven = driven_rests below bb.body })

  no_turn : (t : Bool) (c : Module) → cond t None None ≡ Some c → ⊥
  no_turn true c e = absurd (cc)
  no_turn false c e = absurd (cc)

  pub flat_ends : (fuel : ℕ) (bb : Building) (c : Module) → IsStep below bb → flat_after fuel below bb ≡ Some c → IsEnd bb c
  unfolding flat_after
  flat_ends zero bb c step e = by (first_instance bb.body.cells) refl e
    where
      by : (o : Option (Cell × List Cell)) → first_instance bb.body.cells ≡ o → turn_by (λ b. None) below bb o ≡ Some c → IsEnd bb c
      by None q g = ends bb c step q (some_same bb.body c g)
      by (Some r) q g = absurd (no_turn (is_within (after_one below bb r)) c g)
  flat_ends (suc fuel) bb c step e =
      by (first_instance bb.body.cells) refl e (λ b s g. flat_ends fuel b c s g)
    where
      one : (r : Cell × List Cell) (t : Bool) → first_instance bb.body.cells ≡ Some r → is_within (after_one below bb r) ≡ t → cond t (flat_after fuel below (after_one below bb r)) None ≡ Some c → ((b : Building) → IsStep below b → flat_after fuel below b ≡ Some c → IsEnd b c) → IsEnd bb c
      one r true q w g later =
          let k = one_next bb r step q w in
          let l = later (after_one below bb r) k.step g in
          record { plain = l.plain; names = l.names; ready = l.ready; none = l.none; body = body_twice below bb.body (after_one below bb r).body c k.body l.body; driven = driven_twice below bb.body (after_one below bb r).body c k.driven l.driven }
      one r false q w g later = absurd (cc)

      by : (o : Option (Cell × List Cell)) → first_instance bb.body.cells ≡ o → turn_by (flat_after fuel below) below bb o ≡ Some c → ((b : Building) → IsStep below b → flat_after fuel below b ≡ Some c → IsEnd b c) → IsEnd bb c
      by None q g later = ends bb c step q (some_same bb.body c g)
      by (Some r) q g later = one r (is_within (after_one below bb r)) q refl g later

-- over the modules that are reached
pub reached_over : (d : Design) (b : Module) (below : List Module) → AreFit below → ((g : Frame) → In g (instances b.cells) → (k : Module) × (named below g.module_name ≡ Some k)) → AreReached d b below → StandsOver d b below
reached_over d b below fit covered reached = record {
  own = λ g i. let k = covered g i in found g k.0 k.1;
  inner = λ m j g i. let k = fit.covered m j g i in found g k.0 k.1;
}
  where
    found : (g : Frame) (k : Module) → named below g.module_name ≡ Some k → named d.modules g.module_name ≡ named below g.module_name
    found g k e =
        let r = reached.just k (named_in below g.module_name k e) in
        ap (named d.modules) (sym (named_id below g.module_name k e)) ∙ leads_named d r.0 b k r.1 ∙ sym e

pub goes_below : (below : List Module) (b c : Module) → AreFit below → ((g : Frame) → In g (instances b.cells) → (k : Module) × (named below g.module_name ≡ Some k)) → BodyGoes below b c → RefinesBelow b c below
goes_below below b c fit covered h = record {
  holds = λ pre post before now reached. let k = h.goes pre post before.ids (reached_over (with_body pre b post) b below fit covered reached) in
      goes_refines k.0.0 (with_body pre b post) (with_body pre c post) now k.0.1;
}

-- one replacement refines
pub one_refines : (below : List Module) → AreFit below → (bb : Building) (r : Cell × List Cell) → IsStep below bb → first_instance bb.body.cells ≡ Some r → is_within (after_one below bb r) ≡ true → RefinesBelow bb.body (after_one below bb r).body below
one_refines below fit bb r step e w =
    goes_below below bb.body (after_one below bb r).body fit step.covered (one_next below fit bb r step e w).body

-- and all of them
pub flat_refines : (below : List Module) → AreFit below → (m c : Module) → IsStep below (building_of m) → flat_of below m ≡ Some c → RefinesBelow m c below
unfolding flat_of
flat_refines below fit m c step e =
    goes_below below m c fit step.covered (flat_ends below fit 1048576 (building_of m) c step e).body
