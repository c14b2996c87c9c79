-- The connections that come with an instance are such as a text can give.
use Rattle.std.proofs.Common.{◌≡◌, ◌+◌, ◌<◌, Bool, true, false, cond, List, [], ◌∷◌, ◌++◌, length, map, inl, inr, refl, sym, subst, arith}
use Rattle.std.specs.Prelude.{IsSomeAnd, flat_map}
use Rattle.std.specs.List.{All}
use Rattle.std.proofs.lemmas.List.Elements.{All-append, All-cons, All-head, All-map, All-nil, All-tail, All-weaker}
use Rattle.rtl_sig.specs.Names.{AreDistinct}
use Rattle.rtl_sig.specs.declared.sig.SigBit.{SigBit}
use Rattle.rtl_sig.specs.declared.sig.SigBit.TheVariants.{Wire as OnWire}
use Rattle.rtl_ir.specs.declared.cell.Pin.{Pin}
use Rattle.rtl_ir.specs.declared.module.Link.{Link}
use Rattle.rtl_ir.specs.declared.module.Module.{Module}
use Rattle.rtl_ir.specs.declared.ports.PortLine.{PortLine}
use Rattle.rtl_ir.specs.declared.wire.Role.{Role}
use Rattle.rtl_ir.specs.declared.wire.Role.TheVariants.{Inner, Inout, Input, Output}
use Rattle.rtl_ir.specs.declared.wire.Wire.{Wire}
use Rattle.rtl_ir.specs.Build.{whole}
use Rattle.rtl_ir.specs.Parameters.{signal_at}
use Rattle.rtl_ir.specs.Ports.{ports_of}
use Rattle.rtl_ir.specs.Rules.{has_item}
use Rattle.net_model.specs.Lists.{In}
use Rattle.pass_laws.proofs.Ports.{line_port}
use Rattle.rtl_readable.specs.Readable.{IsBitOf, IsLink, IsPin, IsSignal, IsWire}
use Rattle.rtl_readable.proofs.Grown.{grown_signal}
use Rattle.rtl_readable.proofs.Signals.{pin_signal}
use Rattle.flat_pass.specs.Copies.{copied_link}
use Rattle.flat_pass.specs.Flat.{links_of, pin_links, place_of_wire, port_links, role_links}
use Rattle.flat_pass.proofs.Partners.{Paired, WireCopied, wire_name}
use Rattle.readable_flat.proofs.Signals.{bit_copied, link_copied, place_is, whole_bits, whole_long}

-- what is so of each item of a list is so of one of them
pub all_at : {A : Type 0} (P : A → Type 0) (xs : List A) → All P xs → (x : A) → In x xs → P x
all_at P [] all x i = absurd i
all_at P (y ∷ ys) all x (inl e) = subst P (sym e) (All-head P y ys all)
all_at P (y ∷ ys) all x (inr i) = all_at P ys (All-tail P y ys all) x i

all_flat : {A : Type 0} (P : Link → Type 0) (f : A → List Link) (xs : List A) → ((x : A) → In x xs → All P (f x)) → All P (flat_map f xs)
all_flat P f [] h = All-nil P
all_flat P f (x ∷ xs) h = All-append P (f x) (flat_map f xs) (h x (inl refl)) (all_flat P f xs (λ y i. h y (inr i)))

role_read : (wires : List Wire) (role : Role) (pin wire : List SigBit) → IsSignal wires pin → IsSignal wires wire → All (IsLink wires) (role_links role pin wire)
role_read wires Inner pin wire h k = All-nil (IsLink wires)
role_read wires Inout pin wire h k = All-nil (IsLink wires)
role_read wires Input pin wire h k = All-cons (IsLink wires) _ [] (record { left = k; right = h }) (All-nil (IsLink wires))
role_read wires Output pin wire h k = All-cons (IsLink wires) _ [] (record { left = h; right = k }) (All-nil (IsLink wires))

pin_read : (wires : List Wire) (role : Role) (pin wire : List SigBit) → IsSignal wires pin → IsSignal wires wire → All (IsLink wires) (pin_links role pin wire)
pin_read wires role pin wire h k = by (has_item pin)
  where
    by : (t : Bool) → All (IsLink wires) (cond t (role_links role pin wire) [])
    by true = role_read wires role pin wire h k
    by false = All-nil (IsLink wires)

module _ (own new ws : List Wire) (paired : Paired WireCopied ws new) (pins : List Pin) (given : All (IsPin own) pins) where
  -- the whole copied wire of a port
  port_read : AreDistinct (map wire_name ws) → All IsWire ws → (w : Wire) → In w ws → IsSignal (own ++ new) (whole (length own + place_of_wire ws w.name) w.width)
  port_read distinct all w i = record {
    bits = whole_bits (IsBitOf (own ++ new)) (length own + place_of_wire ws w.name) w.width
        (λ at l. bit_copied own new ws paired (OnWire (record { wire = place_of_wire ws w.name; at = at })) (subst (λ o. IsSomeAnd o (λ (v : Wire). at < v.width)) (sym (place_is ws w distinct i)) l));
    width = omega (arith, whole_long (length own + place_of_wire ws w.name) w.width, (all_at IsWire ws all w i).width);
  }

  ports_read : AreDistinct (map wire_name ws) → All IsWire ws → (p : PortLine) → In p (ports_of ws) → All (IsLink (own ++ new)) (port_links (length own) ws pins p)
  ports_read distinct all p i =
      let k = line_port ws p i in
      subst (λ (q : PortLine). All (IsLink (own ++ new)) (port_links (length own) ws pins q)) (sym k.3)
      (pin_read (own ++ new) k.0.role (signal_at pins k.0.name) (whole (length own + place_of_wire ws k.0.name) k.0.width)
      (grown_signal new own (signal_at pins k.0.name) (pin_signal own pins k.0.name given))
      (port_read distinct all k.0 k.1))

  pub links_read : (child : Module) → child.wires ≡ ws → AreDistinct (map wire_name ws) → All IsWire ws → All (IsLink ws) child.links → All (IsLink (own ++ new)) (links_of (length own) child pins)
  links_read child same distinct all links =
      All-append (IsLink (own ++ new)) (map (copied_link (length own)) child.links) (flat_map (port_links (length own) child.wires pins) (ports_of child.wires))
      (All-map (IsLink (own ++ new)) (copied_link (length own)) child.links (All-weaker (IsLink ws) (λ (l : Link). IsLink (own ++ new) (copied_link (length own) l)) (link_copied own new ws paired) child.links links))
      (subst (λ (vs : List Wire). All (IsLink (own ++ new)) (flat_map (port_links (length own) vs pins) (ports_of vs))) (sym same)
      (all_flat (IsLink (own ++ new)) (port_links (length own) ws pins) (ports_of ws) (ports_read distinct all)))
