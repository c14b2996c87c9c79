mod Below
mod Tabling
mod Starting
mod Planning
mod Placing
mod First
