-- What RegModemConfig2 shows: the bits beside those that would stay, each as one test of all 256.
-- Assumes nothing.
use mathlib.Core.Path.{◌≡◌}
use Prim.Native.Nat.{ℕ, ◌-◌, ◌/◌, ◌%◌, ◌<◌}
use native.Mathlib.Omega.{arith}
use lib.Bits.{bit_and}
use Rattle.sheets.specs.declared.Variant.TheVariants.{Sx1276}
use Rattle.sheets.specs.Bits.{get}
use Rattle.sheets.specs.Registers.{spreading_factor, rx_payload_crc_on}
use Rattle.sheets.proofs.Sweep.{equal}

module _ (x : ℕ) (b : x < 256) where
  pub sf_72 : x / 16 ≡ get spreading_factor (x - bit_and 15 x)
  sf_72 = equal 0 256 (λ k. k / 16) (λ k. get spreading_factor (k - bit_and 15 k)) tt x (omega arith) (omega arith)

  pub sf_76 : x / 16 ≡ get spreading_factor (x - bit_and 11 x)
  sf_76 = equal 0 256 (λ k. k / 16) (λ k. get spreading_factor (k - bit_and 11 k)) tt x (omega arith) (omega arith)

  pub crc_76 : x / 4 % 2 ≡ get (rx_payload_crc_on Sx1276) (x - bit_and 11 x)
  crc_76 = equal 0 256 (λ k. k / 4 % 2) (λ k. get (rx_payload_crc_on Sx1276) (k - bit_and 11 k)) tt x (omega arith) (omega arith)
