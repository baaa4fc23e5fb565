-- What is printed where a partition can't have a dump, and the numbers of these refusals.
use Rattle.std.specs.Prelude.{ℕ, List, ◌++◌, codes}
use Rattle.std.specs.Fmt.{decimal}
use Rattle.fd_part.specs.declared.outcome.NoRoom.{NoRoom}
use Rattle.fd_part.specs.declared.partition.BadPartition.{BadPartition}

-- it has no room for the dump
abbrev pub no_room_number : ℕ
no_room_number = 44

abbrev pub no_room_text : NoRoom → List ℕ
no_room_text room = codes "needs " ++ (decimal room.need ++ (codes " of " ++ decimal room.have))

-- its size and its block are no whole blocks of a known size
abbrev pub bad_partition_number : ℕ
bad_partition_number = 45

abbrev pub bad_partition_text : BadPartition → List ℕ
bad_partition_text bad = codes "partition " ++ (decimal bad.size ++ (codes " block " ++ decimal bad.block))
