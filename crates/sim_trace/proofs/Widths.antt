-- Output bits are as many as the output ports have.
use Rattle.std.proofs.Common.{◌≡◌, ℕ, zero, suc, ◌+◌, List, [], ◌∷◌, ◌++◌, length, refl, sym, ap, ◌∙◌, length-append, arith}
use Rattle.std.specs.Prelude.{filter, map}
use Rattle.std.specs.List.{fold, sum}
use Rattle.std.proofs.lemmas.List.{length-map}
use Rattle.rtl_bits.specs.declared.bit.Bit.{Bit}
use Rattle.rtl_ir.specs.declared.module.Design.{Design}
use Rattle.rtl_ir.specs.declared.module.Module.{Module}
use Rattle.rtl_ir.specs.declared.ports.PortLine.{PortLine}
use Rattle.rtl_ir.specs.declared.wire.Role.{Role}
use Rattle.rtl_ir.specs.declared.wire.Role.TheVariants.{Inner, Input, Output, Inout}
use Rattle.rtl_ir.specs.Ports.{ports_of}
use Rattle.rtl_ir.specs.Flat.Place.{Path}
use Rattle.rtl_ir.specs.Flat.Point.{Point, Constant, At, wire_points}
use Rattle.rtl_ir.specs.Flat.Tree.{if_role, role_points, places, output_places, root}
use Rattle.net_model.specs.declared.order.Order.{Order}
use Rattle.sim_eval.specs.After.{outputs_after, valuation_after}
use Rattle.sim_text.specs.Ports.{same_role, port_widths}

places-append : (ps qs : List Point) → places (ps ++ qs) ≡ places ps ++ places qs
places-append [] qs = refl
places-append (At q ∷ ps) qs = ap (λ rest. q ∷ rest) (places-append ps qs)
places-append (Constant b ∷ ps) qs = places-append ps qs

wire_count : (p : Path) (name : List ℕ) (at width : ℕ) → length (places (wire_points p name at width)) ≡ width
wire_count p name at zero = refl
wire_count p name at (suc width) = ap suc (wire_count p name (suc at) width)

-- the widths of the output ports among these, where the first has this role
abbrev widths_with : Role → ℕ → List ℕ → List ℕ
widths_with Output width widths = width ∷ widths
widths_with role width widths = widths

abbrev output_widths : List PortLine → List ℕ
output_widths ports = map (λ (port : PortLine). port.width) (filter (λ (port : PortLine). same_role Output port.role) ports)

first_width : (port : PortLine) (ports : List PortLine) → output_widths (port ∷ ports) ≡ widths_with port.role port.width (output_widths ports)
first_width port ports = by port.role refl
  where
    by : (role : Role) → role ≡ port.role → output_widths (port ∷ ports) ≡ widths_with role port.width (output_widths ports)
    by Inner e = rw (← e) refl
    by Input e = rw (← e) refl
    by Output e = rw (← e) refl
    by Inout e = rw (← e) refl

fold_more : (n k : ℕ) (ks : List ℕ) → fold ◌+◌ (n + k) ks ≡ n + fold ◌+◌ k ks
fold_more n k [] = refl
fold_more n k (j ∷ ks) = ap (λ z. fold ◌+◌ z ks) (omega arith) ∙ fold_more n (k + j) ks

sum_first : (k : ℕ) (ks : List ℕ) → sum (k ∷ ks) ≡ k + sum ks
sum_first k ks = ap (λ z. fold ◌+◌ z ks) (omega arith) ∙ fold_more k 0 ks

outputs_count : (p : Path) (ports : List PortLine) → length (places (role_points Output p ports)) ≡ sum (output_widths ports)
outputs_count p [] = refl
outputs_count p (port ∷ ports) =
    ap length (places-append (if_role Output port.role (wire_points p port.name 0 port.width)) (role_points Output p ports))
    ∙ length-append (places (if_role Output port.role (wire_points p port.name 0 port.width))) (places (role_points Output p ports))
    ∙ ap (λ n. length (places (if_role Output port.role (wire_points p port.name 0 port.width))) + n) (outputs_count p ports)
    ∙ one port.role
    ∙ sym (ap sum (first_width port ports))
  where
    one : (role : Role) → length (places (if_role Output role (wire_points p port.name 0 port.width))) + sum (output_widths ports)
        ≡ sum (widths_with role port.width (output_widths ports))
    one Inner = omega arith
    one Input = omega arith
    one Output = ap (λ n. n + sum (output_widths ports)) (wire_count p port.name 0 port.width) ∙ sym (sum_first port.width (output_widths ports))
    one Inout = omega arith

-- the outputs of a step are as many bits as the output ports have
pub outputs_fit : (order : Order) (d : Design) (m : Module) (stimulus : List (List Bit)) (bits : List Bit) → bits ≡ outputs_after order d m stimulus
    → length bits ≡ sum (port_widths Output m)
outputs_fit order d m stimulus bits is =
    ap length is ∙ length-map (output_places m) (valuation_after order d m stimulus) ∙ outputs_count (root m) (ports_of m.wires)
