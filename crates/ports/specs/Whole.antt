-- Whole texts: what a load answers and takes, and what is put where a text is written.
use Rattle.std.specs.Prelude.{◌≡◌, ◌⊎◌, ℕ, ◌+◌, ◌<◌, ◌≤◌, Bool, true, false, List, length, take, Option, ⊤}
use Rattle.std.specs.Option.{option_map}
use Rattle.ports.specs.declared.loading.Loading.{Loading}
use Rattle.ports.specs.declared.loading.Loading.TheVariants.{Loaded, TooLong, Failed as LoadFailed, NoMemory}
use Rattle.ports.specs.declared.putting.Putting.{Putting}
use Rattle.ports.specs.declared.putting.Putting.TheVariants.{Put, Failed as PutFailed}
use Rattle.ports.specs.declared.whole_files.Storing.{Storing}
use Rattle.ports.specs.declared.whole_files.Storing.TheVariants.{Stored, Failed as StoreFailed}
use Rattle.ports.specs.Bytes.{Moves, Gains, IsUsedUp}
use Rattle.ports.specs.Files.{Files, with_file, with_more}

abbrev pub load_failed : Loading → Bool
load_failed (Loaded bytes) = false
load_failed TooLong = false
load_failed LoadFailed = true
load_failed NoMemory = false

abbrev pub put_failed : Putting → Bool
put_failed Put = false
put_failed PutFailed = true

abbrev pub store_failed : Storing → Bool
store_failed Stored = false
store_failed StoreFailed = true

-- what the answer says of the bytes that were left: these are all of them and within the limit, or they are more than the limit
abbrev pub Loads : Loading → ℕ → List ℕ → Type 0
Loads (Loaded bytes) limit all = (bytes.items ≡ all) × (length all ≤ limit)
Loads TooLong limit all = limit < length all
Loads LoadFailed limit all = ⊤
Loads NoMemory limit all = ⊤

-- loaded bytes are within the limit, told or not
abbrev pub IsWithin : Loading → ℕ → Type 0
IsWithin (Loaded bytes) limit = length bytes.items ≤ limit
IsWithin TooLong limit = ⊤
IsWithin LoadFailed limit = ⊤
IsWithin NoMemory limit = ⊤

-- What came, told or not. Loaded bytes are within the limit and nothing is left behind them. `TooLong` is answered at one byte more than the limit,
-- and then alone: where a call failed or memory ran out, no more than the limit had come.
abbrev pub Takes : Loading → ℕ → Option (List ℕ) → Option (List ℕ) → Type 0
Takes (Loaded bytes) limit before now = (length bytes.items ≤ limit) × Moves before now bytes.items × IsUsedUp now
Takes TooLong limit before now = (came : List ℕ) × (length came ≡ limit + 1) × Moves before now came
Takes LoadFailed limit before now = (came : List ℕ) × (length came ≤ limit) × Moves before now came
Takes NoMemory limit before now = (came : List ℕ) × (length came ≤ limit) × Moves before now came

-- The most bytes that were taken for this answer. A file that was too long and whose close failed counts as failed.
abbrev pub most_taken : Loading → ℕ → ℕ
most_taken (Loaded bytes) limit = length bytes.items
most_taken TooLong limit = limit + 1
most_taken LoadFailed limit = limit + 1
most_taken NoMemory limit = limit

-- all the bytes were appended, or some first ones of them
abbrev pub Puts : Putting → List ℕ → Option (List ℕ) → Option (List ℕ) → Type 0
Puts Put bytes before now = Gains before now bytes
Puts PutFailed bytes before now = (count : ℕ) × (count < length bytes) × Gains before now (take count bytes)

-- The file holds all the bytes. Or it is as it was, or holds some first ones of them.
abbrev pub Stores : Storing → List ℕ → List ℕ → Option Files → Option Files → Type 0
Stores Stored name bytes before now = now ≡ option_map (with_file name bytes) before
Stores StoreFailed name bytes before now = (now ≡ before) ⊎ ((count : ℕ) × (now ≡ option_map (with_file name (take count bytes)) before))

-- all the bytes were written behind what the file had, or some first ones of them
abbrev pub AppendsTo : Storing → List ℕ → List ℕ → Option Files → Option Files → Type 0
AppendsTo Stored name bytes before now = now ≡ option_map (with_more name bytes) before
AppendsTo StoreFailed name bytes before now = (count : ℕ) × (count < length bytes) × (now ≡ option_map (with_more name (take count bytes)) before)
