-- `reader::registers::config_2_sx1276` meets its contract: the bits beside those that stay.
use Rattle.std.proofs.Common.{rules, arith}
use Rattle.reader.proofs.registers.Bytes.{sf_76, crc_76}
use Rattle.reader.proofs.registers.config_2_sx1276.Goals as goal

pub returns : goal.returns
returns c = rw (sf_76 c.args.value (omega arith), crc_76 c.args.value (omega arith)) (search rules)
