-- Document 01's starred bench figures: for each row what the definitions compute, and what the bench says.
use Rattle.std.specs.Prelude.{◌≡◌, Bool, true, false, List, [], ◌∷◌, ◌++◌, ℕ, ℤ, pos, negsuc, get_or, replicate}
use Rattle.sheets.specs.declared.Variant.TheVariants.{Sx1272, Sx1276}
use Rattle.sheets.specs.Frequency.{steps, held, frf_msb, frf_mid, frf_lsb, read_back}
use Rattle.sheets.specs.Signal.{snr, offset, rssi}
use Rattle.sheets.specs.Receive.{window}
use Rattle.sheets.specs.Power.{pa_config, pa_dac, ocp}
use Rattle.params.specs.declared.board.Board.{Board}
use Rattle.bus.specs.Call.{Outcome}
use Rattle.operations.specs.Programming.{program_link}
use Rattle.page.specs.Links.{link}
use Rattle.page.specs.Reading.{read_link}

pub record Row : Type 0 where
  pub computed : List ℤ
  pub bench : List ℤ

abbrev pub row : List ℤ → List ℤ → Row
row c b = record { computed = c; bench = b }

-- every row's computed figures are the bench's
abbrev pub Right : List Row → Type 0
Right [] = Unit {0}
Right (r ∷ rs) = (r.computed ≡ r.bench) × Right rs

-- ---- what the columns mean

-- numbers without a sign
abbrev pub plain : List ℕ → List ℤ
plain [] = []
plain (n ∷ ns) = pos n ∷ plain ns

-- RegFrf after a frequency was written
abbrev pub frf : ℕ → List ℕ
frf hz = frf_msb (steps hz) ∷ frf_mid (steps hz) ∷ frf_lsb (steps hz) ∷ []

-- a plain SX1276 board
abbrev pub board : Board
board = record { variant = Sx1276; tcxo_used = false; tx_boost = false; rx_boost = false }

-- Whole programming of a link at a bandwidth and a frequency, on a zero image, with room for 30 records. The rest of the link is
-- ordinary: public network, spreading factor 9, 4/5, a preamble of 8, explicit header, CRC, IQ not inverted, 14 dBm.
abbrev pub programmed : ℕ → ℕ → Outcome
programmed bw hz = program_link board (link 1 9 bw 1 hz 8 0 1 0 (pos 14)) (replicate 128 0) (replicate 90 0) 0

-- the number that it returns
abbrev pub programming : ℕ → ℕ → ℕ
programming bw hz = (programmed bw hz).tells.number

-- the frequency that the reader returns from the image that it leaves at 125 kHz: of a link's values the fifth
abbrev pub reader : ℕ → ℤ
reader hz = get_or (read_link board (programmed 7 hz).image).values 4 (pos 0)

-- the SX1272's RSSI of a packet, by raw RSSI and raw SNR
abbrev pub strength : ℕ → ℕ → ℤ
strength p raw = rssi (offset Sx1272 0) raw p

-- the SX1276's registers 4d, 0b, 09 at a power
abbrev pub amplifier : Bool → ℤ → List ℕ
amplifier boost p = pa_dac Sx1276 boost p ∷ ocp boost p ∷ pa_config Sx1276 boost p ∷ []

-- ---- the table

unfoldable pub starred : List Row
starred =
    row (plain (frf 0)) (plain (0x00 ∷ 0x00 ∷ 0x00 ∷ []))
    ∷ row (plain (frf 868100000)) (plain (0xd9 ∷ 0x06 ∷ 0x66 ∷ []))
    ∷ row (pos (read_back (held 868100000)) ∷ reader 868100000 ∷ []) (plain (868099975 ∷ 868099976 ∷ []))
    ∷ row (plain (frf 1023999999)) (plain (0xff ∷ 0xff ∷ 0xff ∷ []))
    ∷ row (plain (frf 1024000000 ++ (programming 7 1024000000 ∷ []))) (plain (0x00 ∷ 0x00 ∷ 0x00 ∷ 23 ∷ []))
    ∷ row (plain (frf 525000061) ++ (offset Sx1276 (held 525000061) ∷ [])) (plain (0x83 ∷ 0x40 ∷ 0x00 ∷ []) ++ (negsuc 163 ∷ []))
    ∷ row (plain (frf 525000062) ++ (offset Sx1276 (held 525000062) ∷ [])) (plain (0x83 ∷ 0x40 ∷ 0x01 ∷ []) ++ (negsuc 156 ∷ []))
    ∷ row (plain (programming 8 399999999 ∷ programming 8 400000000 ∷ [])) (plain (16 ∷ 0 ∷ []))
    ∷ row (snr 0xff ∷ snr 0xfc ∷ snr 0x80 ∷ []) (pos 0 ∷ negsuc 0 ∷ negsuc 31 ∷ [])
    ∷ row (strength 14 0 ∷ strength 15 0 ∷ strength 255 0 ∷ []) (negsuc 124 ∷ negsuc 122 ∷ pos 133 ∷ [])
    ∷ row (strength 15 0xfc ∷ []) (negsuc 124 ∷ [])
    ∷ row (plain (window 0 ∷ window 1023 ∷ window 1024 ∷ [])) (plain (4 ∷ 1023 ∷ 1023 ∷ []))
    ∷ row (plain (amplifier true (pos 17))) (plain (0x84 ∷ 0x2b ∷ 0x8f ∷ []))
    ∷ row (plain (amplifier true (pos 18))) (plain (0x87 ∷ 0x3b ∷ 0x90 ∷ []))
    ∷ row (plain (pa_config Sx1276 false (negsuc 0) ∷ pa_config Sx1276 false (pos 0) ∷ [])) (plain (0xff ∷ 0x70 ∷ []))
    ∷ []
