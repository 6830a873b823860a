mod Flags
mod Loads
mod Made
mod Nibbles
