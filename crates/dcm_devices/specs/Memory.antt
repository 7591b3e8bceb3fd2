-- Writers over memory.
use Rattle.std.specs.Prelude.{ℕ, ◌-◌, List, take, vec_len}
use Rattle.dcm_devices.specs.declared.memory.MemOut.{MemOut}

-- the bytes that were put so far
abbrev pub written : MemOut → List ℕ
written m = take m.at m.bytes.items

-- how many bytes it holds when it is full
abbrev pub size : MemOut → ℕ
size m = vec_len m.bytes

-- how many bytes more it takes
abbrev pub room_of : MemOut → ℕ
room_of m = size m - m.at
