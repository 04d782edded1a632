use Rattle.std.proofs.Common.{arith}
use Rattle.schema.proofs.Reading.{read_entry}
use Rattle.schema.proofs.tables.OctaveTable.mantissa.Goals as goal

pub float_to_bits-result : goal.float_to_bits-result
float_to_bits-result c = (read_entry c.args.self.schema c.args.place c.entries.result.now c.args.self.known c.entries.ensures.value c.requires).number

pub overflow_sub-result : goal.overflow_sub-result
overflow_sub-result c = let r = read_entry c.args.self.schema c.args.place c.entries.result.now c.args.self.known c.entries.ensures.value c.requires in omega arith

pub returns : goal.returns
returns c =
    let r = read_entry c.args.self.schema c.args.place c.entries.result.now c.args.self.known c.entries.ensures.value c.requires in
    record { value = omega arith; low = omega arith; high = omega arith }
