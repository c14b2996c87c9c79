-- The bits that processes drive are on wires that they name, and wires of different names have different bits.
use Rattle.std.proofs.Common.{◌≡◌, ◌<◌, ℕ, zero, suc, Bool, true, false, not, List, [], ◌∷◌, ◌++◌, length, Option, Some, None, inl, inr, refl, sym, ◌∙◌, ap, subst, arith}
use Rattle.std.specs.Prelude.{filter, flat_map, if◌then◌else◌, map, slice_get}
use Rattle.std.specs.Option.{is_some}
use Rattle.rtl_sig.specs.declared.sig.WireBit.{WireBit}
use Rattle.rtl_ir.specs.Assigns.{left_bits, tree_bits}
use Rattle.rtl_ir.specs.Faults.TwoEdges.{EdgeBit, edge_bit}
use Rattle.rtl_ir.specs.Flat.Place.{OfWire, Path, Place}
use Rattle.rtl_ir.specs.Flat.Point.{bit_place, name_or_empty}
use Rattle.rtl_ir.specs.Flat.Process.{Trigger, edge_trigger, level_trigger}
use Rattle.rtl_ir.specs.Follow.{all_joins, source_at}
use Rattle.rtl_ir.specs.declared.follow.Join.{Join}
use Rattle.rtl_ir.specs.Ports.{ports_of}
use Rattle.rtl_ir.specs.Rules.{acting_rules, beyond, updated_bits, updated_by, without_bit}
use Rattle.rtl_ir.specs.Signals.{same_bit}
use Rattle.rtl_ir.specs.declared.ports.PortLine.{PortLine}
use Rattle.rtl_ir.specs.declared.process.Event.{Event}
use Rattle.rtl_ir.specs.declared.process.Event.TheVariants.{Low, High, Posedge, Negedge, Edge, Global, Init, Always}
use Rattle.rtl_ir.specs.declared.process.Process.{Process}
use Rattle.rtl_ir.specs.declared.process.SyncRule.{SyncRule}
use Rattle.rtl_ir.specs.declared.wire.Wire.{Wire}
use Rattle.net_model.proofs.Members.{In-map, In-mapped, In-right, apart_at, apart_from}
use Rattle.net_model.proofs.Ranges.{RootIn, JoinIn, all_joins_in, each_both, each_filter, each_flat_map, each_none, tree_bits_in}
use Rattle.net_model.specs.Lists.{Distinct, In}
use Rattle.net_model.specs.Within.{Each, ProcessIn, RuleIn}
use Rattle.map_laws.proofs.FreshWires.{names_of}
use Rattle.build_laws.specs.Rebuilds.{checked_bits, driven_bits, join_bits, loaded_bits, one_rule_bits, raced_bits, rules_bits, two_rules_bits}
use Rattle.build_laws.proofs.CountingBits.{AreBelow, links_below}
use Rattle.pass_laws.proofs.Ports.{line_port}

-- what two rules drive is that of an edge beside a level, in either order, or of two edges
pub two_cases : (P : List WireBit → Type 0) (a b : SyncRule) → P (loaded_bits (all_joins a.updates) (all_joins b.updates)) → P (loaded_bits (all_joins b.updates) (all_joins a.updates)) → P (raced_bits (all_joins a.updates) (edge_bit a.event) (edge_bit b.event)) → (e f l k : Option Trigger) → P (two_rules_bits a b e f l k)
two_cases P a b x y z (Some e) (Some f) (Some l) (Some k) = x
two_cases P a b x y z (Some e) (Some f) None (Some k) = x
two_cases P a b x y z (Some e) None (Some l) (Some k) = x
two_cases P a b x y z (Some e) None None (Some k) = x
two_cases P a b x y z (Some e) (Some f) (Some l) None = y
two_cases P a b x y z None (Some f) (Some l) None = y
two_cases P a b x y z None (Some f) (Some l) (Some k) = y
two_cases P a b x y z (Some e) (Some f) None None = z
two_cases P a b x y z (Some e) None (Some l) None = z
two_cases P a b x y z (Some e) None None None = z
two_cases P a b x y z None (Some f) None (Some k) = z
two_cases P a b x y z None (Some f) None None = z
two_cases P a b x y z None None (Some l) (Some k) = z
two_cases P a b x y z None None (Some l) None = z
two_cases P a b x y z None None None (Some k) = z
two_cases P a b x y z None None None None = z

module _ (n : ℕ) where
  abbrev Below : WireBit → Type 0
  Below b = b.wire < n

  joined_below : (js : List Join) → Each (JoinIn n) js → AreBelow n (join_bits js)
  joined_below js h b i =
      let k = In-mapped (λ (j : Join). j.bit) b js i in
      subst (λ (x : WireBit). x.wire < n) (sym k.2) (h k.0 k.1).bit

  loaded_below : (edges levels : List Join) → Each (JoinIn n) edges → Each (JoinIn n) levels → AreBelow n (loaded_bits edges levels)
  loaded_below edges levels h k =
      each_both Below (join_bits edges) _ (joined_below edges h)
      (joined_below (filter (λ (j : Join). not (is_some (source_at edges j.bit))) levels) (each_filter (JoinIn n) _ levels k))

  raced_below : (updates : List Join) → Each (JoinIn n) updates → (a b : Option EdgeBit) → AreBelow n (raced_bits updates a b)
  raced_below updates h (Some a) (Some b) = joined_below updates h
  raced_below updates h (Some a) None = each_none Below
  raced_below updates h None (Some b) = each_none Below
  raced_below updates h None None = each_none Below

  one_below : (updates : List Join) → Each (JoinIn n) updates → (event : Event) → AreBelow n (one_rule_bits updates event)
  one_below updates h Always = joined_below updates h
  one_below updates h Global = joined_below updates h
  one_below updates h (Posedge signal) = joined_below updates h
  one_below updates h (Negedge signal) = joined_below updates h
  one_below updates h (High signal) = joined_below updates h
  one_below updates h (Low signal) = joined_below updates h
  one_below updates h (Edge signal) = each_none Below
  one_below updates h Init = each_none Below

  rules_below : (rules : List SyncRule) → Each (RuleIn n) rules → AreBelow n (rules_bits rules)
  rules_below [] h = each_none Below
  rules_below (a ∷ []) h = one_below (all_joins a.updates) (all_joins_in n a.updates (h a (inl refl)).updates) a.event
  rules_below (a ∷ b ∷ []) h =
      let first = all_joins_in n a.updates (h a (inl refl)).updates in
      let second = all_joins_in n b.updates (h b (inr (inl refl))).updates in
      two_cases (AreBelow n) a b (loaded_below (all_joins a.updates) (all_joins b.updates) first second) (loaded_below (all_joins b.updates) (all_joins a.updates) second first)
      (raced_below (all_joins a.updates) first (edge_bit a.event) (edge_bit b.event))
      (edge_trigger a.event) (edge_trigger b.event) (level_trigger a.event) (level_trigger b.event)
  rules_below (a ∷ b ∷ c ∷ rules) h = each_none Below

  root_within : (q : Process) → ProcessIn n q → RootIn n q.root
  root_within q h = record { assigns = h.assigns; switches = h.switches }

  pub driven_below : (qs : List Process) → Each (ProcessIn n) qs → AreBelow n (flat_map driven_bits qs)
  driven_below qs h =
      each_flat_map Below driven_bits qs (λ q i.
      each_both Below (tree_bits q.root) (rules_bits (acting_rules q.syncs)) (tree_bits_in n q.root (root_within q (h q i)))
      (rules_below (acting_rules q.syncs) (each_filter (RuleIn n) _ q.syncs (h q i).syncs)))

  without_in : (b x : WireBit) (bits : List WireBit) → In x (without_bit b bits) → In x bits
  without_in b x [] i = i
  without_in b x (c ∷ bits) i = by (without_in b x bits) (same_bit b c) i
    where
      by : (In x (without_bit b bits) → In x bits) → (t : Bool) → In x (if t then bits else c ∷ without_bit b bits) → In x (c ∷ bits)
      by later true j = inr j
      by later false (inl e) = inl e
      by later false (inr j) = inr (later j)

  beyond_in : (seen : List WireBit) (x : WireBit) (bits : List WireBit) → In x (beyond seen bits) → In x bits
  beyond_in [] x bits i = i
  beyond_in (b ∷ seen) x bits i = without_in b x bits (beyond_in seen x (without_bit b bits) i)

  updated_below : (rules : List SyncRule) → Each (RuleIn n) rules → AreBelow n (updated_by rules)
  updated_below [] h = each_none Below
  updated_below (a ∷ rules) h =
      each_both Below (left_bits a.updates) _ (links_below n a.updates (h a (inl refl)).updates)
      (λ x i. updated_below rules (λ r j. h r (inr j)) x (beyond_in (left_bits a.updates) x (updated_by rules) i))

  pub checked_below : (qs : List Process) → Each (ProcessIn n) qs → AreBelow n (flat_map checked_bits qs)
  checked_below qs h =
      each_flat_map Below checked_bits qs (λ q i.
      each_both Below (tree_bits q.root) (updated_bits q.syncs) (tree_bits_in n q.root (root_within q (h q i)))
      (updated_below (acting_rules q.syncs) (each_filter (RuleIn n) _ q.syncs (h q i).syncs)))

-- what stands in both of two lists behind one another stands twice
pub not_both : {A : Type 0} (xs ys : List A) → Distinct (xs ++ ys) → (x : A) → In x xs → In x ys → ⊥
not_both [] ys h x i j = i
not_both (z ∷ zs) ys h x (inl e) j = apart_at z (zs ++ ys) h.0 x (In-right x zs ys j) (sym e)
not_both (z ∷ zs) ys h x (inr i) j = not_both zs ys h.1 x i j

pub distinct_map : {A B : Type 0} (f : A → B) (xs : List A) → ((x y : A) → In x xs → In y xs → f x ≡ f y → x ≡ y) → Distinct xs → Distinct (map f xs)
distinct_map f [] h u = tt
distinct_map f (x ∷ xs) h u = (
  apart_from (f x) (map f xs) (λ y i e. let k = In-mapped f y xs i in
      apart_at x xs u.0 k.0 k.1 (h x k.0 (inl refl) (inr k.1) (e ∙ k.2))),
  distinct_map f xs (λ y z i j. h y z (inr i) (inr j)) u.1,
)

pub distinct_before : {A B : Type 0} (f : A → B) (xs : List A) → Distinct (map f xs) → Distinct xs
distinct_before f [] u = tt
distinct_before f (x ∷ xs) u =
    (apart_from x xs (λ y i e. apart_at (f x) (map f xs) u.0 (f y) (In-map f y xs i) (ap f e)), distinct_before f xs u.1)

-- wires of different names at different places
name_in : (ws : List Wire) (at : ℕ) → at < length ws → In (name_or_empty (slice_get ws at)) (names_of ws)
name_in [] at h = absurd (omega (arith, h))
name_in (w ∷ ws) zero h = inl refl
name_in (w ∷ ws) (suc at) h = inr (name_in ws at (omega (arith, h)))

same_at : (ws : List Wire) → Distinct (names_of ws) → (i j : ℕ) → i < length ws → j < length ws → name_or_empty (slice_get ws i) ≡ name_or_empty (slice_get ws j) → i ≡ j
same_at [] u i j h k e = absurd (omega (arith, h))
same_at (w ∷ ws) u zero zero h k e = refl
same_at (w ∷ ws) u zero (suc j) h k e =
    absurd (apart_at w.name (names_of ws) u.0 (name_or_empty (slice_get ws j)) (name_in ws j (omega (arith, k))) e)
same_at (w ∷ ws) u (suc i) zero h k e =
    absurd (apart_at w.name (names_of ws) u.0 (name_or_empty (slice_get ws i)) (name_in ws i (omega (arith, h))) (sym e))
same_at (w ∷ ws) u (suc i) (suc j) h k e = ap suc (same_at ws u.1 i j (omega (arith, h)) (omega (arith, k)) e)

-- so no two bits stand at one place
pub one_place : (p : Path) (ws : List Wire) → Distinct (names_of ws) → (b c : WireBit) → b.wire < length ws → c.wire < length ws → bit_place p ws b ≡ bit_place p ws c → b ≡ c
one_place p ws u b c h k e =
    let spots : OfWire (name_or_empty (slice_get ws b.wire)) b.at ≡ OfWire (name_or_empty (slice_get ws c.wire)) c.at = ap (λ (q : Place). q.spot) e in
    let names : name_or_empty (slice_get ws b.wire) ≡ name_or_empty (slice_get ws c.wire) = cc in
    let ats : b.at ≡ c.at = cc in
    let wires : b.wire ≡ c.wire = same_at ws u b.wire c.wire h k names in
    λ i. record { wire = wires i; at = ats i }

-- a port of a module has the name of one of its wires
pub port_name : (ws : List Wire) (n : PortLine) → In n (ports_of ws) → In n.name (names_of ws)
port_name ws n i =
    let k = line_port ws n i in
    subst (λ name. In name (names_of ws)) (sym (ap (λ (l : PortLine). l.name) k.3)) (In-map (λ (w : Wire). w.name) k.0 ws k.1)
