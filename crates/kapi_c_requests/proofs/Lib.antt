mod Slashes
mod Going
