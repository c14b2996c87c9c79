-- The numbers of the bits that parts drive.
use Rattle.std.specs.Prelude.{ℕ, List, [], ◌∷◌, flat_map, map}
use Rattle.flat_net.specs.declared.leaves.HeldBit.{HeldBit}
use Rattle.flat_net.specs.declared.memory.ReadPort.{ReadPort}
use Rattle.flat_net.specs.declared.memory.WordBit.{WordBit}
use Rattle.flat_net.specs.declared.net.Output.{Output}
use Rattle.flat_net.specs.declared.net.Part.{Part}
use Rattle.flat_net.specs.declared.net.Part.TheVariants as part
use Rattle.flat_net.specs.declared.net.StoreBit.{StoreBit}

-- the numbers of these bits
abbrev pub output_numbers : List Output → List ℕ
output_numbers outputs = map (λ (o : Output). o.number) outputs

-- the numbers of the bits that a part drives
abbrev pub driven : Part → List ℕ
driven (part.Given o) = o.number ∷ []
driven (part.Joined j) = j.to ∷ []
driven (part.Logic c) = output_numbers c.value.outputs
driven (part.Storage c) = map (λ (b : StoreBit). b.number) c.value.bits
driven (part.Tree t) = output_numbers t.value.outputs
driven (part.Held h) = map (λ (b : HeldBit). b.number) h.value.bits
driven (part.Raced r) = map (λ (b : HeldBit). b.number) r.value.bits
driven (part.Remembered w) = map (λ (b : WordBit). b.number) w.value.bits
driven (part.Fetched f) = flat_map (λ (r : ReadPort). output_numbers r.outputs) f.value.ports
