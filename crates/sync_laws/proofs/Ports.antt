-- A write port that is made of a line reads back as the line.
use Rattle.std.proofs.Common.{◌≡◌, ◌≤◌, ◌%◌, ◌^◌, ℕ, Bool, List, if◌then◌else◌, refl, ◌∙◌, ap, arith}
use Rattle.std.specs.Prelude.{◌&&◌, ◌==◌}
use Rattle.std.specs.Str.{bytes_eq}
use Rattle.cell_types.specs.declared.level.Level.{Level}
use Rattle.cell_types.specs.declared.level.Level.TheVariants.{Low, High}
use Rattle.rtl_bits.proofs.NumberLemmas.{number_of_bits_of}
use Rattle.rtl_bits.specs.Numbers.{number_of}
use Rattle.rtl_ir.specs.Constants.{low_bits, value_bits}
use Rattle.rtl_ir.specs.Flat.Access.{cell_access, line_access, line_mask, write_trigger}
use Rattle.rtl_ir.specs.WritePorts.{is_of_memory, is_write_cell}
use Rattle.rtl_ir.specs.declared.cell.Cell.{Cell}
use Rattle.rtl_ir.specs.declared.process.Event.{Event}
use Rattle.rtl_ir.specs.declared.process.WriteLine.{WriteLine}
use Rattle.net_model.specs.Proc.Sync.{Numbered, polarity_of, ports_in}
use Rattle.sync_laws.proofs.Parts.{named}
use Rattle.sync_laws.proofs.WriteParts.{write_part}

pub number_is : (n : ℕ) → n ≤ 65535 → number_of (low_bits n 32) ≡ n
unfolding low_bits
number_is n few = let low : n % 2 ^ 32 ≡ n = omega arith in number_of_bits_of n 32 ∙ low

level_is : (l : Level) → (if number_of (low_bits (polarity_of l) 32) == 0 then Low else High) ≡ l
level_is Low = ap (λ n. if n == 0 then Low else High) (number_is 0 (omega arith))
level_is High = ap (λ n. if n == 0 then Low else High) (number_is 1 (omega arith))

-- the memory's write ports
abbrev pub is_port_of : List ℕ → Cell → Bool
is_port_of name c = is_write_cell c.kind_name && is_of_memory name c

module _ (event : Event) (line : WriteLine) (number : ℕ) (rule : List Numbered) (n : ℕ) where
  pub port_of : (name : List ℕ) → is_port_of name (named (write_part event line number rule) n) ≡ bytes_eq name line.memory
  unfolding is_write_cell
  port_of name = refl

  pub access_is : number ≤ 65535 → cell_access (named (write_part event line number rule) n) ≡ line_access event number (ports_in line.memory rule) line
  access_is few = λ i. record {
    number = number_is number few i;
    mask = line_mask number (ports_in line.memory rule) (value_bits line.mask);
    clock = record { signal = (write_trigger event).signal; level = level_is (write_trigger event).level i };
    address = line.address;
    new = line.value;
    enable = line.enable;
  }
