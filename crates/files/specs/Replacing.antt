-- Which files may be replaced, and when two are the same, from what the operating system says about them.
use Rattle.std.specs.Prelude.{ℕ, if◌then◌else◌, ◌/◌, ◌%◌, Bool, false, not, ◌&&◌, ◌||◌, ◌==◌, Result, Ok, Err}
use Rattle.std.specs.declared.io.Error.{Error}
use Rattle.files.specs.declared.system.Seen.{Seen}

-- The four bits of the mode above the twelve of the permissions say of what kind a file is: 8 for a regular file.
abbrev pub is_regular : ℕ → Bool
is_regular mode = mode / 4096 % 16 == 8

-- The owner, the group or all others may write: the bits of 128, 16 and 2.
abbrev pub is_writable : ℕ → Bool
is_writable mode = mode / 128 % 2 == 1 || (mode / 16 % 2 == 1 || mode / 2 % 2 == 1)

-- Two files are the same: both are there, on the same device and with the same number.
abbrev pub same_file : Result Seen Error → Result Seen Error → Bool
same_file (Ok a) (Ok b) = a.device == b.device && a.number == b.number
same_file (Ok a) (Err e) = false
same_file (Err e) b = false

-- A file that is there may be replaced if it is a regular one, has one name only and may be written to.
abbrev pub is_replaceable : Seen → Bool → Bool
is_replaceable old writable = is_regular old.mode && (old.names == 1 && (writable && is_writable old.mode))

-- A name that is no link may be replaced if its file may be, or if there is none.
abbrev pub may_replace : Bool → Result Seen Error → Bool → Bool → Bool
may_replace link (Ok old) missing writable = not link && is_replaceable old writable
may_replace link (Err e) missing writable = not link && missing

-- A user may make a file in a folder by its mode: root may, and else the bits of 128, 16 and 2 say so, of the owner, of the group and
-- of all others. A user whose first group is another may still be in the folder's.
abbrev pub may_make : Seen → ℕ → ℕ → Bool
may_make folder user group =
    user == 0 || (if user == folder.owner then folder.mode / 128 % 2 == 1 else
    (if group == folder.group then folder.mode / 16 % 2 == 1 else (folder.mode / 16 % 2 == 1 || folder.mode / 2 % 2 == 1)))
